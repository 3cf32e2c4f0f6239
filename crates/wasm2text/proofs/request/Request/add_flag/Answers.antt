-- Each option changes its own field, or sets what is written.
use Rattle.std.proofs.Common.{true, Some, refl}
use Rattle.wasm2text.specs.Arguments.{Flagged}
use Rattle.wasm2text.specs.declared.options.Flag.TheVariants.{Help, Version, PrintOffsets, Skeleton, NameUnnamed, FoldInstructions, Hidden as ShowHidden}
use Rattle.wasm2text.specs.declared.part.Part.TheVariants.{Hidden}
use Rattle.wasm2text.proofs.Requests.{adds}
use Rattle.wasm2text.proofs.request.Request.add_flag.Goals as goal

pub returns-in-Help : goal.returns-in-Help
returns-in-Help c = rw c.in-Help.is (adds c.args.self.now (record c.args.self.now { help = true }) (Flagged Help) refl)

pub returns-in-Version : goal.returns-in-Version
returns-in-Version c = rw c.in-Version.is (adds c.args.self.now (record c.args.self.now { version = true }) (Flagged Version) refl)

pub returns-in-PrintOffsets : goal.returns-in-PrintOffsets
returns-in-PrintOffsets c = rw c.in-PrintOffsets.is (adds c.args.self.now (record c.args.self.now { print_offsets = true }) (Flagged PrintOffsets) refl)

pub returns-in-Skeleton : goal.returns-in-Skeleton
returns-in-Skeleton c = rw c.in-Skeleton.is (adds c.args.self.now (record c.args.self.now { skeleton = true }) (Flagged Skeleton) refl)

pub returns-in-NameUnnamed : goal.returns-in-NameUnnamed
returns-in-NameUnnamed c = rw c.in-NameUnnamed.is (adds c.args.self.now (record c.args.self.now { name_unnamed = true }) (Flagged NameUnnamed) refl)

pub returns-in-FoldInstructions : goal.returns-in-FoldInstructions
returns-in-FoldInstructions c = rw c.in-FoldInstructions.is (adds c.args.self.now (record c.args.self.now { fold_instructions = true }) (Flagged FoldInstructions) refl)

pub returns-in-Hidden : goal.returns-in-Hidden
returns-in-Hidden c = rw c.in-Hidden.is (adds c.args.self.now (record c.args.self.now { part = Some Hidden }) (Flagged ShowHidden) refl)
