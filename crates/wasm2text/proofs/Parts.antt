-- How printing ends if there is no such part.
use Rattle.std.specs.Prelude.{ℕ, List, []}
use Rattle.std.proofs.Common.{refl, ap, inl}
use Rattle.wasmprinter_spec.specs.Options.{Options}
use Rattle.wasm2text.specs.declared.cause.Cause.{Cause}
use Rattle.wasm2text.specs.declared.cause.Cause.TheVariants.{System as Unread, Module, NoByte, NoCode, NoFunction, Output}
use Rattle.wasm2text.specs.declared.printing.Ended.TheVariants.{Refused}
use Rattle.wasm2text.specs.Parts.{Part, Excerpt, OneFunction, Hidden, IsPartRefusal}
use Rattle.wasm2text.specs.Outcome.{PartForm, Writer, Returns, printing, choice, EndsAs}
use Rattle.wasm2text.proofs.Texts.{writes_nothing}

-- If there is no such part, nothing was written.
pub ends_without_part : {W : Type 0} (w : Writer W) (s : W) (o : Options) (wasm : List ℕ) (part : Part) (cause : Cause) → IsPartRefusal o wasm part cause →
    EndsAs (printing (Returns wasm) (choice o (PartForm part)) w) s [] (Refused cause) s
ends_without_part w s o wasm (Excerpt target) (Module error) h = (refl, (wasm, [], refl, h, λ _. refl, inl refl, writes_nothing w s))
ends_without_part w s o wasm (Excerpt target) (NoByte offset len) h = (refl, (wasm, target, refl, refl, h, refl))
ends_without_part w s o wasm (Excerpt target) NoCode h = (refl, (wasm, h.0, refl, ap (λ t. PartForm (Excerpt t)) h.1, h.2, refl))
ends_without_part w s o wasm (Excerpt target) NoFunction h = absurd h
ends_without_part w s o wasm (Excerpt target) (Unread error) h = absurd h
ends_without_part w s o wasm (Excerpt target) (Output error) h = absurd h
ends_without_part w s o wasm (OneFunction function) (Module error) h = (refl, (wasm, [], refl, h, λ _. refl, inl refl, writes_nothing w s))
ends_without_part w s o wasm (OneFunction function) NoFunction h = (refl, (wasm, function, refl, refl, h, refl))
ends_without_part w s o wasm (OneFunction function) (NoByte offset len) h = absurd h
ends_without_part w s o wasm (OneFunction function) NoCode h = absurd h
ends_without_part w s o wasm (OneFunction function) (Unread error) h = absurd h
ends_without_part w s o wasm (OneFunction function) (Output error) h = absurd h
ends_without_part w s o wasm Hidden (Module error) h = (refl, (wasm, [], refl, h, λ _. refl, inl refl, writes_nothing w s))
ends_without_part w s o wasm Hidden (NoByte offset len) h = absurd h
ends_without_part w s o wasm Hidden NoCode h = absurd h
ends_without_part w s o wasm Hidden NoFunction h = absurd h
ends_without_part w s o wasm Hidden (Unread error) h = absurd h
ends_without_part w s o wasm Hidden (Output error) h = absurd h
