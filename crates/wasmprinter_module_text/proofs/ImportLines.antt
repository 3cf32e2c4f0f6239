-- The lines of imports, one after the other, and the number of preceding imports of all kinds.
use Rattle.std.specs.Prelude.{◌≡◌, ℕ, ◌+◌, ◌<◌, ◌≤◌, drop, length, List, [], ◌++◌, refl}
use Rattle.std.proofs.Common.{sym, ap, ◌∙◌, get_or, arith}
use Rattle.std.proofs.Math.ListN.{drop_of_length-le}
use Rattle.std.proofs.lemmas.List.{at_drop_more}
use Rattle.wasmprinter_spec.specs.Grammar.{Placed}
use Rattle.wasmprinter_spec.specs.Types.{ExternType, FuncExtern, TableExtern, MemoryExtern, GlobalExtern, TagExtern}
use Rattle.wasmprinter_spec.specs.Placed.{Import}
use Rattle.wasmprinter_spec.specs.Piece.{Piece}
use Rattle.wasmprinter_spec.specs.Layout.Declarations.{Scope}
use Rattle.wasmprinter_spec.specs.Layout.Imports.{Numbers, number_of, numbers_after, extern_pieces, import_pieces, imports_pieces, extern_parts}
use Rattle.wasmprinter_spec.specs.Layout.Exports.{kind_word}
use Rattle.wasmprinter_spec.specs.Layout.Groups.{line_group_space}
use Rattle.wasmprinter_decoder.specs.Externs.{kind_of_type}
use Rattle.wasmprinter_module_text.proofs.FieldsOnOneLine.{import_line, import-line}

-- If there are at most k imports, no piece is left after the first k.
pub imports-none : (s : Scope) (n : Numbers) (k : ℕ) (is : List (Placed Import)) → length is ≤ k → imports_pieces s n (drop k is) ≡ []
unfolding imports_pieces
imports-none s n k is le = ap (imports_pieces s n) (drop_of_length-le is le)

-- The pieces after the first k imports are those of import k and those of the imports after it.
pub imports-next : (s : Scope) (n : Numbers) (k : ℕ) (is : List (Placed Import)) (i d : Placed Import) → k < length is → i ≡ get_or is k d →
    imports_pieces s n (drop k is) ≡ import_line s (number_of i.value.type n) i ++ imports_pieces s (numbers_after i.value.type n) (drop (k + 1) is)
unfolding imports_pieces import_pieces
imports-next s n k is i d lt e =
    at_drop_more (imports_pieces s n) is k d lt
    ∙ ap (λ (x : Placed Import). import_pieces s (number_of x.value.type n) x ++ imports_pieces s (numbers_after x.value.type n) (drop (k + 1) is)) (sym e)
    ∙ ap (λ (ps : List Piece). ps ++ imports_pieces s (numbers_after i.value.type n) (drop (k + 1) is)) (import-line s (number_of i.value.type n) i)

-- The number of preceding imports of all kinds.
abbrev pub total : Numbers → ℕ
total n = n.functions + (n.tables + (n.memories + (n.globals + n.tags)))

-- Counting an import increases that number by one.
pub total-after : (t : ExternType) (n : Numbers) → total (numbers_after t n) ≡ total n + 1
total-after (FuncExtern i) n = omega arith
total-after (TableExtern t) n = omega arith
total-after (MemoryExtern t) n = omega arith
total-after (GlobalExtern t) n = omega arith
total-after (TagExtern i) n = omega arith

-- The number of preceding imports of one kind is at most that number.
pub number-total : (t : ExternType) (n : Numbers) → number_of t n ≤ total n
number-total (FuncExtern i) n = omega arith
number-total (TableExtern t) n = omega arith
number-total (MemoryExtern t) n = omega arith
number-total (GlobalExtern t) n = omega arith
number-total (TagExtern i) n = omega arith

-- The pieces of an imported item are a group on one line.
pub extern-group : (s : Scope) (n : ℕ) (t : ExternType) → extern_pieces s n t ≡ line_group_space (kind_word (kind_of_type t)) (extern_parts s n t)
unfolding extern_pieces kind_word
extern-group s n (FuncExtern i) = refl
extern-group s n (TableExtern t) = refl
extern-group s n (MemoryExtern t) = refl
extern-group s n (GlobalExtern t) = refl
extern-group s n (TagExtern i) = refl
