-- What begins a whole text goes on to one.
use Rattle.std.proofs.Common.{◌≡◌, ℕ, Bool, true, false, List, [], ◌∷◌, ◌++◌, Option, Some, None, sym, refl, ap, ◌∙◌, subst, append_assoc, append-nil}
use Rattle.word_core.specs.declared.names.Target.TheVariants.{Mealy}
use Rattle.tlsf_basic.specs.declared.headings.Semantics.{Semantics}
use Rattle.tlsf_basic.specs.declared.headings.PlacedTarget.{PlacedTarget}
use Rattle.tlsf_basic.specs.declared.headings.Items.{Items}
use Rattle.tlsf_basic.specs.declared.headings.Heading.{Heading}
use Rattle.tlsf_basic.specs.declared.mains.Sections.{Sections}
use Rattle.tlsf_basic.specs.declared.mains.Parts.{Parts}
use Rattle.tlsf_basic.specs.declared.symbols.Section.{Section}
use Rattle.tlsf_basic.specs.declared.symbols.Symbol.{Symbol}
use Rattle.tlsf_basic.specs.declared.symbols.Symbol.TheVariants as s
use Rattle.tlsf_basic.specs.declared.symbols.Lexeme.{Lexeme}
use Rattle.tlsf_basic.specs.Marks.{is_title, is_description, is_semantics, is_target, is_tags, is_kind, is_colon, is_text, is_comma, is_info, is_main, is_open_brace, is_close_brace, is_declared, is_semicolon, is_inputs, is_outputs, is_section, is_strict, is_name}
use Rattle.tlsf_basic.specs.Values.{no_items, added, no_parts}
use Rattle.tlsf_basic.specs.Rows.{IsRow}
use Rattle.tlsf_basic.specs.Begins.{BeginsMark, no_mark, the_mark}
use Rattle.tlsf_basic.specs.TextGrammar.{IsSemantics, kind_alone, kind_first, strict_first, IsMoreTags, no_tag, tag_more, IsItem, is_title_item, is_description_item, is_semantics_item, is_target_item, is_tags_item, IsItems, no_item, item_more, IsHeading, is_heading, IsNames, no_name, name_more, IsEntries, no_entry, entry_more, IsPart, is_inputs_part, is_outputs_part, is_section_part, IsParts, no_part, part_more, IsMain, is_whole_main, IsText, is_whole_text}
use Rattle.tlsf_basic.specs.TextBegins.{BeginsSemantics, in_kind_first, in_strict_first, BeginsItem, no_item_yet, in_title, in_description, at_semantics, in_semantics, in_target, at_tags, in_tags, BeginsItems, in_items, BeginsHeading, at_info, in_info, whole_heading, BeginsNames, in_names, BeginsEntry, in_formula, at_semicolon, BeginsPart, no_part_yet, at_inputs, in_inputs, end_of_inputs, at_outputs, in_outputs, end_of_outputs, at_section, in_section, end_of_section, BeginsParts, in_parts, BeginsMain, at_main, in_main, whole_main, BeginsText, in_heading, behind_heading}
use Rattle.tlsf_basic.proofs.FormulaWhole.{made, formula_whole}
use Rattle.tlsf_basic.proofs.RowFacts.{row_whole, title_class, description_class, semantics_class, target_class, tags_class, colon_class, text_class, comma_class, kind_class, strict_class, name_class, info_class, main_class, open_brace_class, declared_class, semicolon_class, inputs_class, outputs_class, section_class}
use Rattle.tlsf_basic.proofs.HeadingGood.{kind_is}
use Rattle.tlsf_basic.proofs.MainGood.{row_two, section_is}

row_three : (x y z : Symbol → Bool) (u : List Lexeme) → IsRow (x ∷ y ∷ z ∷ []) u → (a : Lexeme) × (b : Lexeme) × (c : Lexeme) × (u ≡ a ∷ b ∷ c ∷ []) × IsRow (x ∷ y ∷ z ∷ []) (a ∷ b ∷ c ∷ [])
row_three x y z [] h = absurd h
row_three x y z (a ∷ []) h = absurd h.1
row_three x y z (a ∷ b ∷ []) h = absurd h.1.1
row_three x y z (a ∷ b ∷ c ∷ []) h = (a, b, c, refl, h)
row_three x y z (a ∷ b ∷ c ∷ d ∷ w) h = absurd h.1.1.1

-- items

item_alone : (i j : Items) (u : List Lexeme) → IsItem i u j → IsItems i u j
item_alone i j u x = subst (λ q. IsItems i q j) (append-nil u) (item_more i j j u [] x (no_item j))

items_join : (i j k : Items) (w v : List Lexeme) → IsItems i w j → IsItems j v k → IsItems i (w ++ v) k
items_join i j k w v (no_item a) y = y
items_join i j k w v (item_more a b c u z x xs) y = subst (λ q. IsItems a q k) (sym (append_assoc u z v)) (item_more a b k u (z ++ v) x (items_join b c k z v xs y))

tags_join : (w v : List Lexeme) → IsMoreTags w → IsMoreTags v → IsMoreTags (w ++ v)
tags_join w v no_tag y = y
tags_join w v (tag_more c t x row xs) y = tag_more c t (x ++ v) row (tags_join x v xs y)

semantics_of_row : (w : List Lexeme) → IsRow (is_kind ∷ is_comma ∷ is_strict ∷ []) w → (x : Semantics) × IsSemantics w x
semantics_of_row w row =
    let (k, c, t, e, both) = row_three is_kind is_comma is_strict w row in
    let (kind, is) = kind_is k.symbol both.0 in
    (record { kind = kind; strict = true }, subst (λ q. IsSemantics q (record { kind = kind; strict = true })) (sym e) (kind_first k kind c t is both.1))

semantics_of_strict : (w : List Lexeme) → IsRow (is_strict ∷ is_comma ∷ is_kind ∷ []) w → (x : Semantics) × IsSemantics w x
semantics_of_strict w row =
    let (t, c, k, e, both) = row_three is_strict is_comma is_kind w row in
    let (kind, is) = kind_is k.symbol both.1.1.0 in
    (record { kind = kind; strict = true }, subst (λ q. IsSemantics q (record { kind = kind; strict = true })) (sym e) (strict_first t c k kind (both.0, (both.1.0, tt)) is))

semantics_whole : (w : List Lexeme) → BeginsSemantics w → (x : List Lexeme) × (y : Semantics) × IsSemantics (w ++ x) y
semantics_whole w (in_kind_first w' row) =
    let (x, whole) = row_whole (is_kind ∷ is_comma ∷ is_strict ∷ []) (kind_class, (comma_class, (strict_class, tt))) w row in
    let (y, text) = semantics_of_row (w ++ x) whole in (x, y, text)
semantics_whole w (in_strict_first w' row) =
    let (x, whole) = row_whole (is_strict ∷ is_comma ∷ is_kind ∷ []) (strict_class, (comma_class, (kind_class, tt))) w row in
    let (y, text) = semantics_of_strict (w ++ x) whole in (x, y, text)

abbrev ItemsOn : Items → List Lexeme → Type 0
ItemsOn i w = (x : List Lexeme) × (j : Items) × IsItems i (w ++ x) j

target_of_row : (i : Items) (w : List Lexeme) → i.target ≡ None → IsRow (is_target ∷ is_colon ∷ is_kind ∷ []) w → (j : Items) × IsItem i w j
target_of_row i w none row =
    let (a, c, k, e, both) = row_three is_target is_colon is_kind w row in
    let (kind, is) = kind_is k.symbol both.1.1.0 in (
      record i { target = Some (record { target = kind; place = k.from }) },
      subst (λ q. IsItem i q (record i { target = Some (record { target = kind; place = k.from }) })) (sym e) (is_target_item i a c k kind none (both.0, (both.1.0, tt)) is),
    )

semantics_item_whole : (i : Items) (w x : List Lexeme) → i.semantics ≡ None → IsRow (is_semantics ∷ is_colon ∷ []) (w ++ x) → (y : List Lexeme) × (j : Items) × IsItem i (w ++ y) j
semantics_item_whole i w x none row =
    let (a, c, e, both) = row_two is_semantics is_colon (w ++ x) row in
    let k = made (s.Kind Mealy) in (
      x ++ k ∷ [],
      record i { semantics = Some (record { kind = Mealy; strict = false }) },
      subst (λ q. IsItem i q (record i { semantics = Some (record { kind = Mealy; strict = false }) })) (ap (λ q. q ++ k ∷ []) (sym e) ∙ append_assoc w x (k ∷ []))
          (is_semantics_item i a c (k ∷ []) (record { kind = Mealy; strict = false }) none both (kind_alone k Mealy refl)),
    )

item_whole : (i : Items) (w : List Lexeme) → BeginsItem i w → ItemsOn i w
item_whole i w (no_item_yet i') = ([], i, no_item i)
item_whole i w (in_title i' w' e row) =
    let (x, whole) = row_whole (is_title ∷ is_colon ∷ is_text ∷ []) (title_class, (colon_class, (text_class, tt))) w row in
    (x, record i { title = true }, item_alone i (record i { title = true }) (w ++ x) (is_title_item i (w ++ x) e whole))
item_whole i w (in_description i' w' e row) =
    let (x, whole) = row_whole (is_description ∷ is_colon ∷ is_text ∷ []) (description_class, (colon_class, (text_class, tt))) w row in
    (x, record i { description = true }, item_alone i (record i { description = true }) (w ++ x) (is_description_item i (w ++ x) e whole))
item_whole i w (at_semantics i' w' none row) =
    let (x, whole) = row_whole (is_semantics ∷ is_colon ∷ []) (semantics_class, (colon_class, tt)) w row in
    let (y, j, text) = semantics_item_whole i w x none whole in
    (y, j, item_alone i j (w ++ y) text)
item_whole i w (in_semantics i' a c v none row b) =
    let (x, y, text) = semantics_whole v b in
    (x, record i { semantics = Some y }, item_alone i (record i { semantics = Some y }) (a ∷ c ∷ v ++ x) (is_semantics_item i a c (v ++ x) y none row text))
item_whole i w (in_target i' w' none row) =
    let (x, whole) = row_whole (is_target ∷ is_colon ∷ is_kind ∷ []) (target_class, (colon_class, (kind_class, tt))) w row in
    let (j, text) = target_of_row i (w ++ x) none whole in
    (x, j, item_alone i j (w ++ x) text)
item_whole i w (at_tags i' w' e row) =
    let (x, whole) = row_whole (is_tags ∷ is_colon ∷ is_name ∷ []) (tags_class, (colon_class, (name_class, tt))) w row in
    let (a, c, t, eq, both) = row_three is_tags is_colon is_name (w ++ x) whole in
    (x, record i { tags = true }, item_alone i (record i { tags = true }) (w ++ x) (subst (λ q. IsItem i q (record i { tags = true })) (sym eq) (is_tags_item i a c t [] e both no_tag)))
item_whole i w (in_tags i' a c t u v e row more begun) =
    let (x, whole) = row_whole (is_comma ∷ is_name ∷ []) (comma_class, (name_class, tt)) v begun in
    let (d, m, eq, both) = row_two is_comma is_name (v ++ x) whole in
    let last : IsMoreTags (v ++ x) = subst IsMoreTags (sym eq) (tag_more d m [] both no_tag) in (
      x,
      record i { tags = true },
      item_alone i (record i { tags = true }) (a ∷ c ∷ t ∷ (u ++ v) ++ x)
          (subst (λ q. IsItem i (a ∷ c ∷ t ∷ q) (record i { tags = true })) (sym (append_assoc u v x)) (is_tags_item i a c t (u ++ (v ++ x)) e row (tags_join u (v ++ x) more last))),
    )

items_whole : (i : Items) (w : List Lexeme) → BeginsItems i w → ItemsOn i w
items_whole i w (in_items a j u v xs b) =
    let (x, k, ys) = item_whole j v b in
    (x, k, subst (λ q. IsItems a q k) (sym (append_assoc u v x)) (items_join a j k u (v ++ x) xs ys))

-- the items that are still wanted

with_semantics : (j : Items) (o : Option Semantics) → j.semantics ≡ o → (x : List Lexeme) × (k : Items) × (y : Semantics) × IsItems j x k × (k.semantics ≡ Some y) × (k.target ≡ j.target)
with_semantics j None e =
    let k = record j { semantics = Some (record { kind = Mealy; strict = false }) } in
    let (y, z, text) = semantics_item_whole j (made s.Semantics ∷ made s.Colon ∷ []) [] e (refl, (refl, tt)) in (
      made s.Semantics ∷ made s.Colon ∷ made (s.Kind Mealy) ∷ [],
      record j { semantics = Some (record { kind = Mealy; strict = false }) },
      record { kind = Mealy; strict = false },
      item_alone j (record j { semantics = Some (record { kind = Mealy; strict = false }) }) (made s.Semantics ∷ made s.Colon ∷ made (s.Kind Mealy) ∷ [])
          (is_semantics_item j (made s.Semantics) (made s.Colon) (made (s.Kind Mealy) ∷ []) (record { kind = Mealy; strict = false }) e (refl, (refl, tt)) (kind_alone (made (s.Kind Mealy)) Mealy refl)),
      refl,
      refl,
    )
with_semantics j (Some y) e = ([], j, y, no_item j, e, refl)

with_target : (j : Items) (o : Option PlacedTarget) → j.target ≡ o → (x : List Lexeme) × (k : Items) × (y : PlacedTarget) × IsItems j x k × (k.target ≡ Some y) × (k.semantics ≡ j.semantics)
with_target j None e = (
  made s.Target ∷ made s.Colon ∷ made (s.Kind Mealy) ∷ [],
  record j { target = Some (record { target = Mealy; place = 0 }) },
  record { target = Mealy; place = 0 },
  item_alone j (record j { target = Some (record { target = Mealy; place = 0 }) }) (made s.Target ∷ made s.Colon ∷ made (s.Kind Mealy) ∷ [])
      (is_target_item j (made s.Target) (made s.Colon) (made (s.Kind Mealy)) Mealy e (refl, (refl, tt)) refl),
  refl,
  refl,
)
with_target j (Some y) e = ([], j, y, no_item j, e, refl)

heading_from : (a b : Lexeme) (w : List Lexeme) (j : Items) → IsRow (is_info ∷ is_open_brace ∷ []) (a ∷ b ∷ []) → IsItems no_items w j → (x : List Lexeme) × (h : Heading) × IsHeading (a ∷ b ∷ w ++ x) h
heading_from a b w j row xs =
    let (x, k, y, ys, ey, et) = with_semantics j j.semantics refl in
    let (z, m, t, zs, ez, es) = with_target k k.target refl in
    let c = made s.CloseBrace in (
      (x ++ z) ++ c ∷ [],
      record { semantics = y; target = t },
      subst (λ q. IsHeading (a ∷ b ∷ q) (record { semantics = y; target = t })) (append_assoc w (x ++ z) (c ∷ []))
          (is_heading a b c (w ++ (x ++ z)) m y t row (items_join no_items j m w (x ++ z) xs (items_join j k m x z ys zs)) (es ∙ ey) ez refl),
    )

heading_of_row : (w : List Lexeme) → IsRow (is_info ∷ is_open_brace ∷ []) w → (x : List Lexeme) × (h : Heading) × IsHeading (w ++ x) h
heading_of_row w row =
    let (a, b, e, both) = row_two is_info is_open_brace w row in
    let (x, h, text) = heading_from a b [] no_items both (no_item no_items) in
    (x, h, subst (λ q. IsHeading (q ++ x) h) (sym e) text)

heading_whole : (w : List Lexeme) → BeginsHeading w → (x : List Lexeme) × (h : Heading) × IsHeading (w ++ x) h
heading_whole w (at_info w' row) =
    let (x, whole) = row_whole (is_info ∷ is_open_brace ∷ []) (info_class, (open_brace_class, tt)) w row in
    let (y, h, text) = heading_of_row (w ++ x) whole in
    (x ++ y, h, subst (λ q. IsHeading q h) (append_assoc w x y) text)
heading_whole w (in_info a b v row begun) =
    let (x, j, xs) = items_whole no_items v begun in
    let (y, h, text) = heading_from a b (v ++ x) j row xs in
    (x ++ y, h, subst (λ q. IsHeading (a ∷ b ∷ q) h) (append_assoc v x y) text)
heading_whole w (whole_heading w' h text) = ([], h, subst (λ q. IsHeading q h) (sym (append-nil w)) text)

-- names and entries

names_join : (w v : List Lexeme) → IsNames w → IsNames v → IsNames (w ++ v)
names_join w v no_name y = y
names_join w v (name_more t c x row xs) y = name_more t c (x ++ v) row (names_join x v xs y)

names_whole : (w : List Lexeme) → BeginsNames w → (x : List Lexeme) × IsNames (w ++ x)
names_whole w (in_names u v xs row) =
    let (x, whole) = row_whole (is_declared ∷ is_semicolon ∷ []) (declared_class, (semicolon_class, tt)) v row in
    let (t, c, e, both) = row_two is_declared is_semicolon (v ++ x) whole in
    (x, subst IsNames (sym (append_assoc u v x)) (names_join u (v ++ x) xs (subst IsNames (sym e) (name_more t c [] both no_name))))

entries_join : (n : ℕ) (kind : Section) (all mid after : Sections) (w v : List Lexeme) → IsEntries n kind all w mid → IsEntries n kind mid v after → IsEntries n kind all (w ++ v) after
entries_join n kind all mid after w v (no_entry a) y = y
entries_join n kind all mid after w v (entry_more a f u c z b text is xs) y =
    subst (λ q. IsEntries n kind a q after) (sym (append_assoc u (c ∷ z) v)) (entry_more a f u c (z ++ v) after text is (entries_join n kind (added kind f a) b after z v xs y))

entry_whole : (n : ℕ) (kind : Section) (all : Sections) (w : List Lexeme) → BeginsEntry n w → (x : List Lexeme) × (after : Sections) × IsEntries n kind all (w ++ x) after
entry_whole n kind all w (in_formula w' b) =
    let (x, f, text) = formula_whole b in
    let c = made s.Semicolon in
    (x ++ c ∷ [], added kind f all, subst (λ q. IsEntries n kind all q (added kind f all)) (append_assoc w x (c ∷ [])) (entry_more all f (w ++ x) c [] (added kind f all) text refl (no_entry (added kind f all))))
entry_whole n kind all w (at_semicolon f u r text no_mark) =
    let c = made s.Semicolon in
    (c ∷ [], added kind f all, subst (λ q. IsEntries n kind all q (added kind f all)) (sym (append_assoc u [] (c ∷ []))) (entry_more all f u c [] (added kind f all) text refl (no_entry (added kind f all))))
entry_whole n kind all w (at_semicolon f u r text (the_mark c is)) =
    ([], added kind f all, subst (λ q. IsEntries n kind all q (added kind f all)) (sym (append-nil (u ++ c ∷ []))) (entry_more all f u c [] (added kind f all) text is (no_entry (added kind f all))))

-- parts

part_alone : (n : ℕ) (i j : Parts) (u : List Lexeme) → IsPart n i u j → IsParts n i u j
part_alone n i j u x = subst (λ q. IsParts n i q j) (append-nil u) (part_more i j j u [] x (no_part j))

parts_join : (n : ℕ) (i j k : Parts) (w v : List Lexeme) → IsParts n i w j → IsParts n j v k → IsParts n i (w ++ v) k
parts_join n i j k w v (no_part a) y = y
parts_join n i j k w v (part_more a b c u z x xs) y = subst (λ q. IsParts n a q k) (sym (append_assoc u z v)) (part_more a b k u (z ++ v) x (parts_join n b c k z v xs y))

abbrev PartsOn : ℕ → Parts → List Lexeme → Type 0
PartsOn n i w = (x : List Lexeme) × (j : Parts) × IsParts n i (w ++ x) j

-- up to a closing brace that may be there
closed_on : (n : ℕ) (i j : Parts) (w r : List Lexeme) → ((c : Lexeme) → is_close_brace c.symbol ≡ true → IsPart n i (w ++ c ∷ []) j) → BeginsMark is_close_brace r → PartsOn n i (w ++ r)
closed_on n i j w r part no_mark =
    let c = made s.CloseBrace in
    (c ∷ [], j, subst (λ q. IsParts n i q j) (sym (append_assoc w [] (c ∷ []))) (part_alone n i j (w ++ c ∷ []) (part c refl)))
closed_on n i j w r part (the_mark c is) = ([], j, subst (λ q. IsParts n i q j) (sym (append-nil (w ++ c ∷ []))) (part_alone n i j (w ++ c ∷ []) (part c is)))

further : (n : ℕ) (i : Parts) (w x : List Lexeme) → PartsOn n i (w ++ x) → PartsOn n i w
further n i w x (y, j, xs) = (x ++ y, j, subst (λ q. IsParts n i q j) (append_assoc w x y) xs)

inputs_of_row : (n : ℕ) (i : Parts) (w : List Lexeme) → i.inputs ≡ false → IsRow (is_inputs ∷ is_open_brace ∷ []) w → PartsOn n i w
inputs_of_row n i w e row =
    let (a, b, eq, both) = row_two is_inputs is_open_brace w row in
    subst (PartsOn n i) (sym eq) (closed_on n i (record i { inputs = true }) (a ∷ b ∷ []) [] (λ c is. is_inputs_part i a b c [] e both no_name is) no_mark)

outputs_of_row : (n : ℕ) (i : Parts) (w : List Lexeme) → i.outputs ≡ false → IsRow (is_outputs ∷ is_open_brace ∷ []) w → PartsOn n i w
outputs_of_row n i w e row =
    let (a, b, eq, both) = row_two is_outputs is_open_brace w row in
    subst (PartsOn n i) (sym eq) (closed_on n i (record i { outputs = true }) (a ∷ b ∷ []) [] (λ c is. is_outputs_part i a b c [] e both no_name is) no_mark)

section_of_row : (n : ℕ) (i : Parts) (w : List Lexeme) → IsRow (is_section ∷ is_open_brace ∷ []) w → PartsOn n i w
section_of_row n i w row =
    let (a, b, eq, both) = row_two is_section is_open_brace w row in
    let (kind, is) = section_is a.symbol both.0 in
    subst (PartsOn n i) (sym eq) (closed_on n i (record i { sections = i.sections }) (a ∷ b ∷ []) [] (λ c ic. is_section_part i kind a b c [] i.sections is both.1.0 (no_entry i.sections) ic) no_mark)

part_whole : (n : ℕ) (i : Parts) (w : List Lexeme) → BeginsPart n i w → PartsOn n i w
part_whole n i w (no_part_yet i') = ([], i, no_part i)
part_whole n i w (at_inputs i' w' e row) =
    let (x, whole) = row_whole (is_inputs ∷ is_open_brace ∷ []) (inputs_class, (open_brace_class, tt)) w row in
    further n i w x (inputs_of_row n i (w ++ x) e whole)
part_whole n i w (in_inputs i' a b v e row begun) =
    let (x, xs) = names_whole v begun in
    further n i (a ∷ b ∷ v) x (subst (λ q. PartsOn n i (a ∷ b ∷ q)) (append-nil (v ++ x)) (closed_on n i (record i { inputs = true }) (a ∷ b ∷ v ++ x) [] (λ c is. is_inputs_part i a b c (v ++ x) e row xs is) no_mark))
part_whole n i w (end_of_inputs i' a b v r e row xs mark) = closed_on n i (record i { inputs = true }) (a ∷ b ∷ v) r (λ c is. is_inputs_part i a b c v e row xs is) mark
part_whole n i w (at_outputs i' w' e row) =
    let (x, whole) = row_whole (is_outputs ∷ is_open_brace ∷ []) (outputs_class, (open_brace_class, tt)) w row in
    further n i w x (outputs_of_row n i (w ++ x) e whole)
part_whole n i w (in_outputs i' a b v e row begun) =
    let (x, xs) = names_whole v begun in
    further n i (a ∷ b ∷ v) x (subst (λ q. PartsOn n i (a ∷ b ∷ q)) (append-nil (v ++ x)) (closed_on n i (record i { outputs = true }) (a ∷ b ∷ v ++ x) [] (λ c is. is_outputs_part i a b c (v ++ x) e row xs is) no_mark))
part_whole n i w (end_of_outputs i' a b v r e row xs mark) = closed_on n i (record i { outputs = true }) (a ∷ b ∷ v) r (λ c is. is_outputs_part i a b c v e row xs is) mark
part_whole n i w (at_section i' w' row) =
    let (x, whole) = row_whole (is_section ∷ is_open_brace ∷ []) (section_class, (open_brace_class, tt)) w row in
    further n i w x (section_of_row n i (w ++ x) whole)
part_whole n i w (in_section i' kind a b u v mid is ib xs begun) =
    let (x, after, ys) = entry_whole n kind mid v begun in
    let all : IsEntries n kind i.sections ((u ++ v) ++ x) after = subst (λ q. IsEntries n kind i.sections q after) (sym (append_assoc u v x)) (entries_join n kind i.sections mid after u (v ++ x) xs ys) in
    further n i (a ∷ b ∷ u ++ v) x (subst (λ q. PartsOn n i (a ∷ b ∷ q)) (append-nil ((u ++ v) ++ x)) (closed_on n i (record i { sections = after }) (a ∷ b ∷ (u ++ v) ++ x) [] (λ c ic. is_section_part i kind a b c ((u ++ v) ++ x) after is ib all ic) no_mark))
part_whole n i w (end_of_section i' kind a b v r after is ib xs mark) = closed_on n i (record i { sections = after }) (a ∷ b ∷ v) r (λ c ic. is_section_part i kind a b c v after is ib xs ic) mark

parts_whole : (n : ℕ) (i : Parts) (w : List Lexeme) → BeginsParts n i w → PartsOn n i w
parts_whole n i w (in_parts a j u v xs b) =
    let (x, k, ys) = part_whole n j v b in
    (x, k, subst (λ q. IsParts n a q k) (sym (append_assoc u v x)) (parts_join n a j k u (v ++ x) xs ys))

-- the parts that are still wanted

with_inputs : (n : ℕ) (j : Parts) (o : Bool) → j.inputs ≡ o → (x : List Lexeme) × (k : Parts) × IsParts n j x k × (k.inputs ≡ true)
with_inputs n j true e = ([], j, no_part j, e)
with_inputs n j false e = (
  made s.Inputs ∷ made s.OpenBrace ∷ made s.CloseBrace ∷ [],
  record j { inputs = true },
  part_alone n j (record j { inputs = true }) (made s.Inputs ∷ made s.OpenBrace ∷ made s.CloseBrace ∷ []) (is_inputs_part j (made s.Inputs) (made s.OpenBrace) (made s.CloseBrace) [] e (refl, (refl, tt)) no_name refl),
  refl,
)

with_outputs : (n : ℕ) (j : Parts) (o : Bool) → j.outputs ≡ o → (x : List Lexeme) × (k : Parts) × IsParts n j x k × (k.outputs ≡ true) × (k.inputs ≡ j.inputs)
with_outputs n j true e = ([], j, no_part j, e, refl)
with_outputs n j false e = (
  made s.Outputs ∷ made s.OpenBrace ∷ made s.CloseBrace ∷ [],
  record j { outputs = true },
  part_alone n j (record j { outputs = true }) (made s.Outputs ∷ made s.OpenBrace ∷ made s.CloseBrace ∷ []) (is_outputs_part j (made s.Outputs) (made s.OpenBrace) (made s.CloseBrace) [] e (refl, (refl, tt)) no_name refl),
  refl,
  refl,
)

main_from : (n : ℕ) (a b : Lexeme) (w : List Lexeme) (j : Parts) → IsRow (is_main ∷ is_open_brace ∷ []) (a ∷ b ∷ []) → IsParts n no_parts w j → (x : List Lexeme) × (all : Sections) × IsMain n (a ∷ b ∷ w ++ x) all
main_from n a b w j row xs =
    let (x, k, ys, ei) = with_inputs n j j.inputs refl in
    let (z, m, zs, eo, same) = with_outputs n k k.outputs refl in
    let c = made s.CloseBrace in (
      (x ++ z) ++ c ∷ [],
      m.sections,
      subst (λ q. IsMain n (a ∷ b ∷ q) m.sections) (append_assoc w (x ++ z) (c ∷ []))
          (is_whole_main a b c (w ++ (x ++ z)) m row (parts_join n no_parts j m w (x ++ z) xs (parts_join n j k m x z ys zs)) (same ∙ ei) eo refl),
    )

main_of_row : (n : ℕ) (w : List Lexeme) → IsRow (is_main ∷ is_open_brace ∷ []) w → (x : List Lexeme) × (all : Sections) × IsMain n (w ++ x) all
main_of_row n w row =
    let (a, b, e, both) = row_two is_main is_open_brace w row in
    let (x, all, text) = main_from n a b [] no_parts both (no_part no_parts) in
    (x, all, subst (λ q. IsMain n (q ++ x) all) (sym e) text)

main_whole : (n : ℕ) (w : List Lexeme) → BeginsMain n w → (x : List Lexeme) × (all : Sections) × IsMain n (w ++ x) all
main_whole n w (at_main w' row) =
    let (x, whole) = row_whole (is_main ∷ is_open_brace ∷ []) (main_class, (open_brace_class, tt)) w row in
    let (y, all, text) = main_of_row n (w ++ x) whole in
    (x ++ y, all, subst (λ q. IsMain n q all) (append_assoc w x y) text)
main_whole n w (in_main a b v row begun) =
    let (x, j, xs) = parts_whole n no_parts v begun in
    let (y, all, text) = main_from n a b (v ++ x) j row xs in
    (x ++ y, all, subst (λ q. IsMain n (a ∷ b ∷ q) all) (append_assoc v x y) text)
main_whole n w (whole_main w' all text) = ([], all, subst (λ q. IsMain n q all) (sym (append-nil w)) text)

pub text_whole : (n : ℕ) (w : List Lexeme) → BeginsText n w → (x : List Lexeme) × (y : Heading × Sections) × IsText n (w ++ x) y
text_whole n w (in_heading w' begun) =
    let (x, h, head) = heading_whole w begun in
    let (z, all, main) = main_whole n [] (at_main [] tt) in
    (x ++ z, (h, all), subst (λ q. IsText n q (h, all)) (append_assoc w x z) (is_whole_text (w ++ x) z h all head main))
text_whole n w (behind_heading u v h head begun) =
    let (x, all, main) = main_whole n v begun in
    (x, (h, all), subst (λ q. IsText n q (h, all)) (sym (append_assoc u v x)) (is_whole_text u (v ++ x) h all head main))
