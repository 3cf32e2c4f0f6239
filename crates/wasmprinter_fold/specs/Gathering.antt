-- When gathering the types of imports allocates memory.
use Rattle.std.specs.Prelude.{◌<◌, ◌⊎◌, length}
use Rattle.wasmprinter_spec.specs.Placed.{PlacedModule}
use Rattle.wasmprinter_spec.specs.Module.{without_places, imported_types, func_import, tag_import}

-- A function or a tag is imported.
abbrev pub ImportsFunctionOrTag : PlacedModule → Type 0
ImportsFunctionOrTag m =
    (0 < length (imported_types func_import (without_places m.imports)))
    ⊎ (0 < length (imported_types tag_import (without_places m.imports)))
