-- Fields in which no line begins are groups on one line.
use Rattle.std.specs.Prelude.{◌≡◌, ℕ, List, ◌∷◌, ◌++◌, codes, Bool, Some, None, refl}
use Rattle.std.proofs.Common.{sym, ap}
use Rattle.wasmprinter_spec.specs.Grammar.{Placed}
use Rattle.wasmprinter_spec.specs.Types.{MemoryType}
use Rattle.wasmprinter_spec.specs.Row as row
use Rattle.wasmprinter_spec.specs.Placed.{Import, Export}
use Rattle.wasmprinter_spec.specs.Piece.{Piece, Break, OpenSpace}
use Rattle.wasmprinter_spec.specs.Layout.Groups.{close, line_group_space, group_space}
use Rattle.wasmprinter_spec.specs.Layout.Tags.{tag_pieces}
use Rattle.wasmprinter_spec.specs.Layout.Start.{start_pieces}
use Rattle.wasmprinter_spec.specs.Layout.Declarations.{Scope, item_index}
use Rattle.wasmprinter_spec.specs.Layout.Functions.{header_pieces}
use Rattle.wasmprinter_spec.specs.Layout.Memories.{memory_pieces, declared_memory}
use Rattle.wasmprinter_spec.specs.Layout.Imports.{import_pieces, import_parts}
use Rattle.wasmprinter_spec.specs.Layout.Exports.{export_pieces, export_parts, kind_word}
use Rattle.wasmprinter_spec.proofs.OneLine.{IsOneLine, stays_unbroken, both_stay, then_stay, line_group_space_stays}
use Rattle.wasmprinter_laws.proofs.Lines.FieldLines.{header_stays, item_stays, declared_stays, memory_type_stays, extern_stays, extern_index_stays}
use Rattle.wasmprinter_module_text.specs.Parts.{field_line}

-- If no line begins in a field, it is a group on one line.
on_one_line : {A : Type 0} (keyword : List ℕ) (place : A → ℕ) (parts : ℕ → A → List Piece) (i : ℕ) (x : A) → IsOneLine (parts i x) →
    Break (Some (place x)) 1 ∷ line_group_space keyword (parts i x) ≡ field_line keyword place parts i x
unfolding line_group_space group_space
on_one_line keyword place parts i x stays =
    ap (λ (b : Bool). Break (Some (place x)) 1 ∷ (OpenSpace keyword ∷ (parts i x ++ close None 1 b))) (sym (stays_unbroken stays))

-- The line of an import, with its number among those of its kind.
abbrev pub import_line : Scope → ℕ → Placed Import → List Piece
import_line s = field_line (codes "import") (λ i. i.place) (λ n i. import_parts s n i.value)

pub import-line : (s : Scope) (n : ℕ) (i : Placed Import) → import_pieces s n i ≡ import_line s n i
unfolding import_pieces
import-line s n i =
    on_one_line (codes "import") (λ i. i.place) (λ n i. import_parts s n i.value) n i
    (then_stay refl (then_stay refl (then_stay refl (then_stay refl (extern_stays s n i.value.type)))))

pub start-line : (s : Scope) (f : Placed ℕ) → start_pieces s (Some f) ≡ field_line (codes "start") (λ f. f.place) (λ i f. item_index s row.Func f.value) 0 f
unfolding start_pieces
start-line s f = on_one_line (codes "start") (λ f. f.place) (λ i f. item_index s row.Func f.value) 0 f (item_stays s row.Func f.value)

pub memory-line : (s : Scope) (i : ℕ) (m : Placed MemoryType) →
    memory_pieces s i m ≡ field_line (codes "memory") (λ m. m.place) (λ i m. declared_memory s i m.value) i m
unfolding memory_pieces
memory-line s i m =
    on_one_line (codes "memory") (λ m. m.place) (λ i m. declared_memory s i m.value) i m
    (both_stay (declared_stays s row.Memory i) (then_stay refl (memory_type_stays m.value)))

pub tag-line : (s : Scope) (i : ℕ) (t : Placed ℕ) →
    tag_pieces s i t ≡ field_line (codes "tag") (λ t. t.place) (λ i t. header_pieces s row.Tag None i t.value) i t
unfolding tag_pieces
tag-line s i t = on_one_line (codes "tag") (λ t. t.place) (λ i t. header_pieces s row.Tag None i t.value) i t (header_stays s row.Tag None i t.value)

pub export-line : (s : Scope) (i : ℕ) (e : Placed Export) →
    export_pieces s e ≡ field_line (codes "export") (λ e. e.place) (λ i e. export_parts s e.value) i e
unfolding export_pieces
export-line s i e =
    on_one_line (codes "export") (λ e. e.place) (λ i e. export_parts s e.value) i e
    (then_stay refl (then_stay refl (line_group_space_stays (kind_word e.value.kind) (extern_index_stays s e.value.kind e.value.index))))
