-- Worked rows of the count of failures: it increases by one, up to its greatest value, and then stays there.
use Rattle.std.specs.Prelude.{◌≡◌, [], ◌∷◌, map, Some, None, refl}
use Rattle.wasmprinter_spec.specs.Meaning.{one_more}

faults_more : map one_more (None ∷ Some 0 ∷ Some 41 ∷ Some 18446744073709551614 ∷ Some 18446744073709551615 ∷ [])
    ≡ None ∷ Some 1 ∷ Some 42 ∷ Some 18446744073709551615 ∷ Some 18446744073709551615 ∷ []
faults_more = refl
