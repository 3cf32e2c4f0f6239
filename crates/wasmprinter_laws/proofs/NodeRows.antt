-- Worked rows: the nodes of texts, and of the fields of a module's text
use Rattle.std.specs.Prelude.{◌≡◌, ℕ, List, [], ◌∷◌, ◌++◌, map, false, Option, Some, None, option_map, codes, refl}
use Rattle.wasmprinter_spec.specs.Grammar.{◌>>=◌, input}
use Rattle.wasmprinter_spec.specs.Instructions.{expression}
use Rattle.wasmprinter_spec.specs.Names.{no_names}
use Rattle.wasmprinter_spec.specs.Call.{text_of}
use Rattle.wasmprinter_spec.specs.Options.{defaults}
use Rattle.wasmprinter_spec.specs.Piece.{all_calls}
use Rattle.wasmprinter_spec.specs.Layout.Operators.{InLine, Setting}
use Rattle.wasmprinter_spec.specs.Layout.Folded.{items, head_text, node_pieces, folded_pieces}
use Rattle.wasmprinter_spec.specs.Table.{arity_of}
use Rattle.wasmprinter_spec.specs.Folding.Arities.{Signatures}
use Rattle.wasmprinter_spec.specs.Forest.{Forest, End, Word, Name, Group}
use Rattle.wasmprinter_spec.specs.Folding.Tree.{NodesOf, Nil, Snoc}
use Rattle.wasmprinter_spec.specs.Read.{Fields, fields, module_fields}
use Rattle.wasmprinter_spec.proofs.Computing.{printing, reading}
use Rattle.wasmprinter_spec.proofs.Samples.{lines}
use Rattle.wasmprinter_laws.specs.NodeLaws.{items_in, nodes_in, with_heads}
use Rattle.wasmprinter_laws.specs.TreeLaws.{field_nodes, segment_nodes, tree_of}

-- One more node, of a constant
abbrev constant : List ℕ → NodesOf Forest → NodesOf Forest
constant n before = Snoc before (Word (codes "i32.const") (Word n End)) 0 Nil

-- ---- texts of operators

-- An `if` contains its operand and its cases. The group of its result is part of its own operator.
choice : nodes_in (codes "(if (result i32) (i32.const 0) (then (i32.const 1)) (else (i32.const 2)))")
    ≡ Some (Snoc Nil (Word (codes "if") (Group (Word (codes "result") (Word (codes "i32") End)) End)) 0
    (Snoc (Snoc (constant (codes "0") Nil) (Word (codes "then") End) 0 (constant (codes "1") Nil)) (Word (codes "else") End) 0 (constant (codes "2") Nil)))
unfolding reading
choice = refl

-- Several nodes, with a comment and a hint between them
row : nodes_in (codes "(i32.const 0) (; a comment ;) (@metadata.code.branch_hint \"\\01\") (drop (i32.const 1)) ;; (nop)")
    ≡ Some (Snoc (constant (codes "0") Nil) (Word (codes "drop") End) 0 (constant (codes "1") Nil))
unfolding reading
row = refl

-- A text with an operator outside of groups, or with an item after a node, has no row of nodes.
flat_operator : nodes_in (codes "(i32.const 0) drop") ≡ None
unfolding reading
flat_operator = refl

item_after : nodes_in (codes "(drop (i32.const 0) 1)") ≡ None
unfolding reading
item_after = refl

-- ---- trees

abbrev no_signatures : Signatures
no_signatures = record { types = λ t. None; functions = λ f. None; tags = λ t. None; fields = λ t. None; own = Some 1; arities = arity_of }

abbrev in_one_line : Setting
in_one_line = record { form = InLine; signature = λ n. None; nesting = 2; names = no_names; function = 0; body = 0 }

-- The folded text of the operators that bytes encode
abbrev folded_text : List ℕ → Option (Option (List ℕ))
folded_text bytes =
    option_map (λ x. option_map (λ ps. text_of (all_calls defaults ps)) (folded_pieces defaults false in_one_line no_signatures [] x.0.items)) (expression.parse (input 1 bytes))

-- The tree of these operators, with the items of each node's own operator
abbrev folded_tree : List ℕ → Option (Option (NodesOf (Option Forest)))
folded_tree bytes =
    option_map (λ x. option_map (with_heads (λ h. items_in (head_text defaults h))) (tree_of in_one_line no_signatures [] x.0.items)) (expression.parse (input 1 bytes))

-- The `if` of the first row
abbrev choice_bytes : List ℕ
choice_bytes = 0x41 ∷ 0x00 ∷ 0x04 ∷ 0x7f ∷ 0x41 ∷ 0x01 ∷ 0x05 ∷ 0x41 ∷ 0x02 ∷ 0x0b ∷ 0x0b ∷ []

choice_printed : folded_text choice_bytes
    ≡ Some (Some (codes "(if (result i32)  (; label = @1 ;) (i32.const 0) (then (i32.const 1)) (else (i32.const 2)))"))
unfolding printing items node_pieces folded_pieces
choice_printed = refl

choice_tree : folded_tree choice_bytes ≡ Some (option_map (with_heads (λ f. Some f)) (nodes_in (codes "(if (result i32) (i32.const 0) (then (i32.const 1)) (else (i32.const 2)))")))
unfolding printing reading items
choice_tree = refl

-- ---- fields

abbrev module_text : List ℕ
module_text = lines (
    codes "(module"
    ∷ codes "  (type (;0;) (func (param i32) (result i32)))"
    ∷ codes "  (table (;0;) 2 funcref)"
    ∷ codes "  (table (;1;) 2 (ref null 0) (ref.null 0))"
    ∷ codes "  (global $g (;0;) (mut i32) (i32.const 7))"
    ∷ codes "  (elem (;0;) (offset (i32.add (i32.const 0) (i32.const 1))) func 0)"
    ∷ codes "  (elem (;1;) (table 1) (i32.const 0) (ref null 0) (ref.func 0) (item (ref.null 0)))"
    ∷ codes "  (func $f (;0;) (type 0) (param $a i32) (result i32)"
    ∷ codes "    (local $x i64)"
    ∷ codes "    (global.set $g"
    ∷ codes "      (i32.const 1))"
    ∷ codes "    (local.get $a)"
    ∷ codes "  )"
    ∷ codes "  (data (;0;) (i32.const 8) \"x\")"
    ∷ codes ")"
    ∷ [])

abbrev sorted : Option Fields
sorted = items_in module_text >>= module_fields >>= fields

-- The items before a body are not nodes, and a table without an initialiser has no nodes.
bodies : option_map (λ fs. map field_nodes fs.functions) sorted
    ≡ Some (Some (Snoc (Snoc Nil (Word (codes "global.set") (Name (codes "g") End)) 0 (constant (codes "1") Nil)) (Word (codes "local.get") (Name (codes "a") End)) 0 Nil) ∷ [])
unfolding reading
bodies = refl

initialisers : option_map (λ fs. map field_nodes (fs.tables ++ fs.globals)) sorted
    ≡ Some (Some Nil ∷ (Some (Snoc Nil (Word (codes "ref.null") (Word (codes "0") End)) 0 Nil) ∷ (Some (constant (codes "7") Nil) ∷ [])))
unfolding reading
initialisers = refl

-- An offset and items, each after the word of its group or alone in it
segments : option_map (λ fs. map segment_nodes (fs.elements ++ fs.data_segments)) sorted
    ≡ Some (
    (Some (Snoc Nil (Word (codes "i32.add") End) 0 (constant (codes "1") (constant (codes "0") Nil))) ∷ [])
    ∷ ((Some (constant (codes "0") Nil) ∷ (Some (Snoc Nil (Word (codes "ref.func") (Word (codes "0") End)) 0 Nil) ∷ (Some (Snoc Nil (Word (codes "ref.null") (Word (codes "0") End)) 0 Nil) ∷ [])))
    ∷ ((Some (constant (codes "8") Nil) ∷ []) ∷ [])))
unfolding reading
segments = refl
