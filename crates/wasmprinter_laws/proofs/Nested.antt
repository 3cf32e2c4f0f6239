-- The reader's test of nesting accepts operators exactly if they are well nested.
use Rattle.std.proofs.Common.{◌≡◌, Bool, true, false, Some, None, if◌then◌else◌, refl, ap}
use Rattle.wasmprinter_spec.specs.NestingSteps.{stops_at_end, nested_to_end}
use Rattle.wasmprinter_spec.specs.Row.{Ends}
use Rattle.wasmprinter_spec.specs.Laws.{TakesNested}

from_some : {A : Type 0} (b : Bool) (x : A) → (if b then Some x else None) ≡ Some x → b ≡ true
from_some true x e = refl
from_some false x e = absurd cc

pub takes_nested : TakesNested
takes_nested os = (
  λ e. (nested_to_end _ Ends (from_some _ os e)).0,
  λ n. ap (λ b. if b then Some os else None) (stops_at_end _ n),
)
