-- Each entry that a name section gives has an index of 32 bits and a name in UTF-8.
use Rattle.std.proofs.Common.{◌≡◌, ℕ, List, [], ◌∷◌, ◌++◌, Option, Some, None, sym, subst, arith}
use Rattle.std.specs.Prelude.{◌<◌, ◌^◌, IsUtf8, MatchOption, nat_lt, ◌==◌}
use Rattle.wasmprinter_spec.specs.Grammar.{Input, byte}
use Rattle.wasmprinter_spec.specs.Name.{u32, name}
use Rattle.wasmprinter_spec.specs.Binary.{AreBytes}
use Rattle.wasmprinter_spec.specs.Lenient.{give, follow, repeat, within, by_test, Groups}
use Rattle.wasmprinter_spec.specs.Types.{concat}
use Rattle.wasmprinter_spec.specs.Names.Section.{Entry, entry, entry_of, association, name_map, inner_map, indirect_map, module_name, module_subsection, tag_subsection, is_indirect, entries_by_id, content, subsection}
use Rattle.wasmprinter_spec.proofs.Each.{all_both}
use Rattle.wasmprinter_laws.specs.NameLaws.{IsEntry, AreEntries, BytesGiveEntries}
use Rattle.wasmprinter_laws.proofs.AllSpelled.{AllSpelled, Spelled-seq}
use Rattle.wasmprinter_laws.proofs.AllGiven.{Stays, AllGiven, AllGiven-give, AllGiven-follow, AllGiven-follow_any, AllGiven-repeat, AllGiven-within, AllGiven-by_test}
use Rattle.wasmprinter_laws.proofs.Vectors.{AllSpelled-u32}
use Rattle.wasmprinter_laws.proofs.PartRanges.{AllSpelled-name}

AllSpelled-association : AllSpelled association (λ x. (x.0 < 2 ^ 32) × IsUtf8 x.1)
AllSpelled-association = Spelled-seq AllSpelled-u32 (λ _. AllSpelled-name)

fits_entry : (s outer : ℕ) → AllGiven IsEntry (entry s outer)
fits_entry s outer =
    AllGiven-follow IsEntry association AllSpelled-association (λ x. give (entry_of s outer x ∷ []))
    (λ x h. AllGiven-give IsEntry (entry_of s outer x ∷ []) (record { index = h.0; name = h.1 }, tt))

fits_map : (s outer : ℕ) → AllGiven IsEntry (name_map s outer)
fits_map s outer = AllGiven-follow_any IsEntry u32 (λ n. repeat (entry s outer) n) (λ n. AllGiven-repeat IsEntry (entry s outer) (fits_entry s outer) n)

fits_inner_map : (s : ℕ) → AllGiven IsEntry (inner_map s)
fits_inner_map s = AllGiven-follow_any IsEntry u32 (λ outer. name_map s outer) (λ outer. fits_map s outer)

fits_indirect_map : (s : ℕ) → AllGiven IsEntry (indirect_map s)
fits_indirect_map s = AllGiven-follow_any IsEntry u32 (λ n. repeat (inner_map s) n) (λ n. AllGiven-repeat IsEntry (inner_map s) (fits_inner_map s) n)

fits_module_name : AllGiven IsEntry module_name
fits_module_name =
    AllGiven-follow IsEntry name AllSpelled-name (λ x. give (entry_of module_subsection 0 (0, x) ∷ []))
    (λ x h. AllGiven-give IsEntry (entry_of module_subsection 0 (0, x) ∷ []) (record { index = omega arith; name = h }, tt))

fits_content : (s : ℕ) → AllGiven IsEntry (content s)
fits_content s =
    AllGiven-by_test IsEntry (nat_lt tag_subsection s) (give []) (entries_by_id s) (AllGiven-give IsEntry [] tt)
    (AllGiven-by_test IsEntry (s == module_subsection) module_name (by_test (is_indirect s) (indirect_map s) (name_map s 0)) fits_module_name
    (AllGiven-by_test IsEntry (is_indirect s) (indirect_map s) (name_map s 0) (fits_indirect_map s) (fits_map s 0)))

fits_subsection : AllGiven IsEntry subsection
fits_subsection =
    AllGiven-follow_any IsEntry byte (λ s. follow u32 (λ size. within (content s) size))
    (λ s. AllGiven-follow_any IsEntry u32 (λ size. within (content s) size) (λ size. AllGiven-within IsEntry (content s) (fits_content s) size))

groups_by : (xs : List Entry) (groups : List (List Entry)) (end : Option Input) → AreEntries xs → Stays end → MatchOption end (groups ≡ []) (λ mid. Groups subsection mid groups)
    → ((mid : Input) → AreBytes mid.bytes → Groups subsection mid groups → AreEntries (concat groups)) → AreEntries (xs ++ concat groups)
groups_by xs groups None s b m h = all_both IsEntry xs (concat groups) s (subst (λ (gs : List (List Entry)). AreEntries (concat gs)) (sym m) tt)
groups_by xs groups (Some mid) s b m h = all_both IsEntry xs (concat groups) s (h mid b m)

groups_fit : (groups : List (List Entry)) (at : Input) → AreBytes at.bytes → Groups subsection at groups → AreEntries (concat groups)
groups_fit [] at b g = tt
groups_fit (xs ∷ groups) at b (some, end, given, after) =
    let fit = fits_subsection.has at xs end b given in
    groups_by xs groups end fit.0 fit.1 after (λ mid c k. groups_fit groups mid c k)

pub bytes_give_entries : BytesGiveEntries
bytes_give_entries at entries b (groups, given, joined) = subst AreEntries (sym joined) (groups_fit groups at b given)
