-- Worked rows of plain text: the bytes at the boundaries.
use Rattle.std.specs.Prelude.{◌∷◌, [], refl}
use Rattle.std.proofs.Common.{arith, inl, inr}
use Rattle.wasmprinter_spec.specs.Plain.{IsPlainByte, IsPlainText}

edges : IsPlainText (9 ∷ 10 ∷ 32 ∷ 126 ∷ [])
edges = (inl refl, (inr (inl refl), (inr (inr (omega arith, omega arith)), (inr (inr (omega arith, omega arith)), tt))))

before_tab : IsPlainByte 8 → ⊥
before_tab (inl e) = omega arith
before_tab (inr (inl e)) = omega arith
before_tab (inr (inr h)) = omega (arith, h.0, h.1)

after_feed : IsPlainByte 11 → ⊥
after_feed (inl e) = omega arith
after_feed (inr (inl e)) = omega arith
after_feed (inr (inr h)) = omega (arith, h.0, h.1)

return_byte : IsPlainByte 13 → ⊥
return_byte (inl e) = omega arith
return_byte (inr (inl e)) = omega arith
return_byte (inr (inr h)) = omega (arith, h.0, h.1)

escape : IsPlainByte 27 → ⊥
escape (inl e) = omega arith
escape (inr (inl e)) = omega arith
escape (inr (inr h)) = omega (arith, h.0, h.1)

before_space : IsPlainByte 31 → ⊥
before_space (inl e) = omega arith
before_space (inr (inl e)) = omega arith
before_space (inr (inr h)) = omega (arith, h.0, h.1)

delete : IsPlainByte 127 → ⊥
delete (inl e) = omega arith
delete (inr (inl e)) = omega arith
delete (inr (inr h)) = omega (arith, h.0, h.1)

no_ascii : IsPlainByte 195 → ⊥
no_ascii (inl e) = omega arith
no_ascii (inr (inl e)) = omega arith
no_ascii (inr (inr h)) = omega (arith, h.0, h.1)
