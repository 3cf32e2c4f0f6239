-- A file that is created when its first byte is written.
use Rattle.std.specs.Prelude.{◌≡◌, ◌≢◌, ℕ, ◌⊎◌, List, [], Option, Some, None, Result, Ok, Err}
use Rattle.std.specs.declared.io.Error.{Error as IoError}
use Rattle.wasmprinter_writers.specs.Writing.{Writing}
use Rattle.wasm2text.specs.declared.output.OutputFile.{OutputFile}

-- The possible results of creating a file with this name, with the states of the creator before and after.
abbrev pub Creating : Type 0 → Type 0 → Type 1
Creating C F = C → List ℕ → Result F IoError → C → Type 0

-- Closing a file, with the states of the creator before and after.
abbrev pub Closing : Type 0 → Type 0 → Type 1
Closing C F = C → F → C → Type 0

-- The file was created, and the bytes were written to it with this result. Or it could not be created.
abbrev pub CreatesFile : {C F : Type 0} → Creating C F → Writing F → OutputFile C F → List ℕ → Result (Unit {0}) IoError → OutputFile C F → Type 0
CreatesFile {C} {F} creates takes old bytes answer new =
    ((first next : F) × (outputs : C) × creates old.outputs old.path.now (Ok first) outputs × takes first bytes answer next
    × (new ≡ record old { outputs = outputs; file = Some next }))
    ⊎ ((error : IoError) × (outputs : C) × creates old.outputs old.path.now (Err error) outputs × (answer ≡ Err error)
    × (new ≡ record old { outputs = outputs }))

-- Bytes were written to a file that is created (`Some`) or not (`None`). A file that is not created is created unless
-- there are no bytes.
abbrev pub WritesBy : {C F : Type 0} → Creating C F → Writing F → Option F → OutputFile C F → List ℕ → Result (Unit {0}) IoError → OutputFile C F → Type 0
WritesBy {C} {F} creates takes (Some file) old bytes answer new = (next : F) × takes file bytes answer next × (new ≡ record old { file = Some next })
WritesBy creates takes None old bytes answer new =
    ((bytes ≡ []) × (answer ≡ Ok tt) × (new ≡ old)) ⊎ ((bytes ≢ []) × CreatesFile creates takes old bytes answer new)

-- The possible results of writing bytes to the file.
abbrev pub WritesFile : {C F : Type 0} → Creating C F → Writing F → Writing (OutputFile C F)
WritesFile creates takes old bytes answer new = WritesBy creates takes old.file old bytes answer new

-- The possible results of flushing the file. Nothing is done if it is not created.
abbrev pub FlushesBy : {C F : Type 0} → (F → Result (Unit {0}) IoError → F → Type 0) → Option F → OutputFile C F → Result (Unit {0}) IoError → OutputFile C F → Type 0
FlushesBy {C} {F} flushes (Some file) old answer new = (next : F) × flushes file answer next × (new ≡ record old { file = Some next })
FlushesBy flushes None old answer new = (answer ≡ Ok tt) × (new ≡ old)

abbrev pub FlushesFile : {C F : Type 0} → (F → Result (Unit {0}) IoError → F → Type 0) → OutputFile C F → Result (Unit {0}) IoError → OutputFile C F → Type 0
FlushesFile flushes old answer new = FlushesBy flushes old.file old answer new

-- The name of the file if it is not created.
abbrev pub uncreated_by : {F : Type 0} → (F → Option (List ℕ)) → Option F → List ℕ → Option (List ℕ)
uncreated_by uncreated (Some file) path = uncreated file
uncreated_by uncreated None path = Some path

abbrev pub uncreated_file : {C F : Type 0} → (F → Option (List ℕ)) → OutputFile C F → Option (List ℕ)
uncreated_file uncreated file = uncreated_by uncreated file.file file.path.now

-- The file was closed if it is created. The state of the creator after it is `outputs`.
abbrev pub ClosesBy : {C F : Type 0} → Closing C F → Option F → C → C → Type 0
ClosesBy closes (Some file) old outputs = closes old file outputs
ClosesBy closes None old outputs = outputs ≡ old

abbrev pub ClosesFile : {C F : Type 0} → Closing C F → OutputFile C F → C → Type 0
ClosesFile closes file outputs = ClosesBy closes file.file file.outputs outputs
