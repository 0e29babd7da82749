-- Each whole text of the grammar is read as its value.
use Rattle.std.proofs.Common.{◌≡◌, ℕ, zero, suc, ◌<◌, ◌≤◌, Bool, true, false, cond, List, [], ◌∷◌, ◌++◌, length, drop, Ok, Some, sym, refl, ap, ◌∙◌, subst, arith, append_assoc, length-append}
use Rattle.std.specs.Prelude.{is_some}
use Rattle.ltl_form.specs.declared.formulas.Ltl.{Ltl}
use Rattle.word_core.specs.declared.names.Target.{Target}
use Rattle.tlsf_basic.specs.declared.faults.Part.{Part}
use Rattle.tlsf_basic.specs.declared.faults.Part.TheVariants as part
use Rattle.tlsf_basic.specs.declared.headings.Semantics.{Semantics}
use Rattle.tlsf_basic.specs.declared.headings.Items.{Items}
use Rattle.tlsf_basic.specs.declared.headings.Heading.{Heading}
use Rattle.tlsf_basic.specs.declared.mains.Sections.{Sections}
use Rattle.tlsf_basic.specs.declared.mains.Parts.{Parts}
use Rattle.tlsf_basic.specs.declared.symbols.Section.{Section}
use Rattle.tlsf_basic.specs.declared.symbols.Symbol.{Symbol}
use Rattle.tlsf_basic.specs.declared.symbols.Symbol.TheVariants as s
use Rattle.tlsf_basic.specs.declared.symbols.Lexeme.{Lexeme}
use Rattle.tlsf_basic.specs.Reads.{Read, ◌>>=◌, front, unexpected, passes, turns}
use Rattle.tlsf_basic.specs.Marks.{mark, closing, part_word, in_braces, is_title, is_description, is_semantics, is_target, is_tags, is_colon, is_text, is_comma, is_info, is_main, is_open_brace, is_close_brace, is_declared, is_semicolon, is_inputs, is_outputs, is_strict, is_name}
use Rattle.tlsf_basic.specs.Formulas.{read_formula, nested}
use Rattle.tlsf_basic.specs.Headings.{read_string, kind_by, read_kind, strict_by, semantics_by, read_semantics, read_tags, read_title, read_description, read_tag_item, read_semantics_item, read_target_item, item_by, read_item, read_items, heading_by, close_heading, read_heading}
use Rattle.tlsf_basic.specs.Values.{no_items, added, no_parts}
use Rattle.tlsf_basic.specs.Mains.{name_turn, read_names, read_declared, read_entry, read_entries, read_inputs, read_outputs, read_section, part_by, read_part, read_parts, close_main, read_main}
use Rattle.tlsf_basic.specs.Rows.{IsRow}
use Rattle.tlsf_basic.specs.Grammar.{atom_value, IsUnary, is_atom, is_parens, is_prefixed, IsAll, is_all, IsAny, is_any, IsArrow, is_last, is_implied, IsFormula, is_arrow, is_lone}
use Rattle.tlsf_basic.specs.TextGrammar.{IsSemantics, kind_alone, kind_first, strict_first, IsMoreTags, no_tag, tag_more, IsItem, is_title_item, is_description_item, is_semantics_item, is_target_item, is_tags_item, IsItems, no_item, item_more, IsHeading, is_heading, IsNames, no_name, name_more, IsEntries, no_entry, entry_more, IsPart, is_inputs_part, is_outputs_part, is_section_part, IsParts, no_part, part_more, IsMain, is_whole_main}
use Rattle.tlsf_basic.proofs.Turns.{turns_end, one_turn, passes_end, one_pass}
use Rattle.tlsf_basic.proofs.Loops.{bind_assoc, run, run_end, run_more}
use Rattle.tlsf_basic.proofs.FormulaRead.{PastFormula, formula_read}
use Rattle.tlsf_basic.proofs.RowFacts.{mark_read}
use Rattle.tlsf_basic.proofs.HeadingGood.{item_some}
use Rattle.tlsf_basic.proofs.MainGood.{part_some, sides, closes_main}

class_is_title : (y : Symbol) → is_title y ≡ true → y ≡ s.Title
class_is_title s.Title e = refl
class_is_title y e = cc

class_is_description : (y : Symbol) → is_description y ≡ true → y ≡ s.Description
class_is_description s.Description e = refl
class_is_description y e = cc

class_is_semantics : (y : Symbol) → is_semantics y ≡ true → y ≡ s.Semantics
class_is_semantics s.Semantics e = refl
class_is_semantics y e = cc

class_is_target : (y : Symbol) → is_target y ≡ true → y ≡ s.Target
class_is_target s.Target e = refl
class_is_target y e = cc

class_is_tags : (y : Symbol) → is_tags y ≡ true → y ≡ s.Tags
class_is_tags s.Tags e = refl
class_is_tags y e = cc

class_is_strict : (y : Symbol) → is_strict y ≡ true → y ≡ s.Strict
class_is_strict s.Strict e = refl
class_is_strict y e = cc

class_is_comma : (y : Symbol) → is_comma y ≡ true → y ≡ s.Comma
class_is_comma s.Comma e = refl
class_is_comma y e = cc

class_is_inputs : (y : Symbol) → is_inputs y ≡ true → y ≡ s.Inputs
class_is_inputs s.Inputs e = refl
class_is_inputs y e = cc

class_is_outputs : (y : Symbol) → is_outputs y ≡ true → y ≡ s.Outputs
class_is_outputs s.Outputs e = refl
class_is_outputs y e = cc

pub class_is_close_brace : (y : Symbol) → is_close_brace y ≡ true → y ≡ s.CloseBrace
class_is_close_brace s.CloseBrace e = refl
class_is_close_brace y e = cc

class_is_semicolon : (y : Symbol) → is_semicolon y ≡ true → y ≡ s.Semicolon
class_is_semicolon s.Semicolon e = refl
class_is_semicolon y e = cc

class_declared_in : (y : Symbol) → is_declared y ≡ true → in_braces y ≡ true
class_declared_in (s.Declared side) e = refl
class_declared_in y e = cc

kind_read : (t : Lexeme) (kind : Target) (v : List Lexeme) → t.symbol ≡ s.Kind kind → read_kind (t ∷ v) ≡ Ok (record { target = kind; place = t.from }, v)
unfolding read_kind
kind_read t kind v is = ap (λ y. kind_by y t v) is

-- the semantics

strict_ends : (y : Symbol) (kind : Target) (v : List Lexeme) → is_comma y ≡ false → strict_by y kind v ≡ Ok (record { kind = kind; strict = false }, v)
strict_ends s.Comma kind v e = cc
strict_ends y kind v e = refl

strict_reads : (kind : Target) (c t : Lexeme) (v : List Lexeme) → IsRow (is_comma ∷ is_strict ∷ []) (c ∷ t ∷ []) → strict_by c.symbol kind (c ∷ t ∷ v) ≡ Ok (record { kind = kind; strict = true }, v)
strict_reads kind c t v row =
    ap (λ y. strict_by y kind (c ∷ t ∷ v)) (class_is_comma c.symbol row.0)
    ∙ ap (λ q. q >>= λ z. Ok (record { kind = kind; strict = true }, z)) (mark_read is_strict t v row.1.0)

kind_no_strict : (t : Lexeme) (kind : Target) (v : List Lexeme) → t.symbol ≡ s.Kind kind → read_semantics (t ∷ v) ≡ (read_kind (t ∷ v) >>= λ r. strict_by (front r.1) r.0.target r.1)
unfolding read_semantics
kind_no_strict t kind v is = ap (λ y. semantics_by y (t ∷ v)) is

semantics_read : (u : List Lexeme) (x : Semantics) → IsSemantics u x → (v : List Lexeme) → is_comma (front v) ≡ false → read_semantics (u ++ v) ≡ Ok (x, v)
unfolding read_semantics
semantics_read u x (kind_alone k kind is) v past =
    kind_no_strict k kind v is ∙ ap (λ q. q >>= λ r. strict_by (front r.1) r.0.target r.1) (kind_read k kind v is) ∙ strict_ends (front v) kind v past
semantics_read u x (kind_first k kind c t is row) v past =
    kind_no_strict k kind (c ∷ t ∷ v) is ∙ ap (λ q. q >>= λ r. strict_by (front r.1) r.0.target r.1) (kind_read k kind (c ∷ t ∷ v) is) ∙ strict_reads kind c t v row
semantics_read u x (strict_first t c k kind row is) v past =
    ap (λ y. semantics_by y (t ∷ c ∷ k ∷ v)) (class_is_strict t.symbol row.0)
    ∙ ap (λ q. q >>= λ z. read_kind z >>= λ r. Ok (record { kind = r.0.target; strict = true }, r.1)) (mark_read is_comma c (k ∷ v) row.1.0)
    ∙ ap (λ q. q >>= λ r. Ok (record { kind = r.0.target; strict = true }, r.1)) (kind_read k kind v is)

-- names behind `,`

tags_read : (w : List Lexeme) → IsMoreTags w → (k : ℕ) (v : List Lexeme) → length (w ++ v) ≤ k → is_comma (front v) ≡ false → passes is_comma (λ x. mark is_name (drop 1 x)) k (w ++ v) ≡ Ok v
tags_read w no_tag k v len past = passes_end is_comma (λ x. mark is_name (drop 1 x)) k v past
tags_read w (tag_more c t x row more) zero v len past = absurd (omega (arith, len))
tags_read w (tag_more c t x row more) (suc k) v len past =
    one_pass is_comma (λ x. mark is_name (drop 1 x)) k (c ∷ t ∷ x ++ v) row.0
    ∙ ap (λ q. q >>= passes is_comma (λ x. mark is_name (drop 1 x)) k) (mark_read is_name t (x ++ v) row.1.0)
    ∙ tags_read x more k v (omega (arith, len)) past

-- what ends an item

abbrev PastItem : Symbol → Type 0
PastItem y = is_comma y ≡ false

abbrev string_value : Items → List Lexeme → Read Items
string_value after x = read_string x >>= λ v. Ok (after, v)

string_reads : (after : Items) (c t : Lexeme) (v : List Lexeme) → is_colon c.symbol ≡ true → is_text t.symbol ≡ true → string_value after (c ∷ t ∷ v) ≡ Ok (after, v)
unfolding read_string
string_reads after c t v ic it =
    ap (λ q. q >>= mark is_text >>= λ v. Ok (after, v)) (mark_read is_colon c (t ∷ v) ic) ∙ ap (λ q. q >>= λ v. Ok (after, v)) (mark_read is_text t v it)

item_read : (i : Items) (u : List Lexeme) (j : Items) → IsItem i u j → (v : List Lexeme) → PastItem (front v) → read_item i (u ++ v) ≡ Ok (j, v)
unfolding read_item read_title read_description read_semantics_item read_target_item read_tag_item read_tags
item_read i u j (is_title_item k [] e row) v past = absurd row
item_read i u j (is_title_item k (a ∷ []) e row) v past = absurd row.1
item_read i u j (is_title_item k (a ∷ c ∷ []) e row) v past = absurd row.1.1
item_read i u j (is_title_item k (a ∷ c ∷ t ∷ d ∷ w) e row) v past = absurd row.1.1.1
item_read i u j (is_title_item k (a ∷ c ∷ t ∷ []) e row) v past =
    ap (λ y. item_by y k (a ∷ c ∷ t ∷ v)) (class_is_title a.symbol row.0)
    ∙ ap (λ b. cond b (unexpected (a ∷ c ∷ t ∷ v)) (string_value (record k { title = true }) (c ∷ t ∷ v))) e
    ∙ string_reads (record k { title = true }) c t v row.1.0 row.1.1.0
item_read i u j (is_description_item k [] e row) v past = absurd row
item_read i u j (is_description_item k (a ∷ []) e row) v past = absurd row.1
item_read i u j (is_description_item k (a ∷ c ∷ []) e row) v past = absurd row.1.1
item_read i u j (is_description_item k (a ∷ c ∷ t ∷ d ∷ w) e row) v past = absurd row.1.1.1
item_read i u j (is_description_item k (a ∷ c ∷ t ∷ []) e row) v past =
    ap (λ y. item_by y k (a ∷ c ∷ t ∷ v)) (class_is_description a.symbol row.0)
    ∙ ap (λ b. cond b (unexpected (a ∷ c ∷ t ∷ v)) (string_value (record k { description = true }) (c ∷ t ∷ v))) e
    ∙ string_reads (record k { description = true }) c t v row.1.0 row.1.1.0
item_read i u j (is_semantics_item k a c w x none row text) v past =
    ap (λ y. item_by y k (a ∷ c ∷ w ++ v)) (class_is_semantics a.symbol row.0)
    ∙ ap (λ o. cond (is_some o) (unexpected (a ∷ c ∷ w ++ v)) (mark is_colon (c ∷ w ++ v) >>= λ z. read_semantics z >>= λ r. Ok (record k { semantics = Some r.0 }, r.1))) none
    ∙ ap (λ q. q >>= λ z. read_semantics z >>= λ r. Ok (record k { semantics = Some r.0 }, r.1)) (mark_read is_colon c (w ++ v) row.1.0)
    ∙ ap (λ q. q >>= λ r. Ok (record k { semantics = Some r.0 }, r.1)) (semantics_read w x text v past)
item_read i u j (is_target_item k a c t kind none row is) v past =
    ap (λ y. item_by y k (a ∷ c ∷ t ∷ v)) (class_is_target a.symbol row.0)
    ∙ ap (λ o. cond (is_some o) (unexpected (a ∷ c ∷ t ∷ v)) (mark is_colon (c ∷ t ∷ v) >>= λ z. read_kind z >>= λ r. Ok (record k { target = Some r.0 }, r.1))) none
    ∙ ap (λ q. q >>= λ z. read_kind z >>= λ r. Ok (record k { target = Some r.0 }, r.1)) (mark_read is_colon c (t ∷ v) row.1.0)
    ∙ ap (λ q. q >>= λ r. Ok (record k { target = Some r.0 }, r.1)) (kind_read t kind v is)
item_read i u j (is_tags_item k a c t w e row more) v past =
    ap (λ y. item_by y k (a ∷ c ∷ t ∷ w ++ v)) (class_is_tags a.symbol row.0)
    ∙ ap (λ b. cond b (unexpected (a ∷ c ∷ t ∷ w ++ v)) (mark is_colon (c ∷ t ∷ w ++ v) >>= λ z. read_tags z >>= λ y. Ok (record k { tags = true }, y))) e
    ∙ ap (λ q. q >>= λ z. read_tags z >>= λ y. Ok (record k { tags = true }, y)) (mark_read is_colon c (t ∷ w ++ v) row.1.0)
    ∙ ap (λ q. q >>= (λ z. passes is_comma (λ x. mark is_name (drop 1 x)) (length z) z) >>= λ y. Ok (record k { tags = true }, y)) (mark_read is_name t (w ++ v) row.1.1.0)
    ∙ ap (λ q. q >>= λ y. Ok (record k { tags = true }, y)) (tags_read w more (length (w ++ v)) v (omega arith) past)

item_starts : (i : Items) (u : List Lexeme) (j : Items) → IsItem i u j → (v : List Lexeme) → (in_braces (front (u ++ v)) ≡ true) × (is_comma (front (u ++ v)) ≡ false)
item_starts i u j (is_title_item k [] e row) v = absurd row
item_starts i u j (is_title_item k (a ∷ w) e row) v = let is = class_is_title a.symbol row.0 in (ap in_braces is, ap is_comma is)
item_starts i u j (is_description_item k [] e row) v = absurd row
item_starts i u j (is_description_item k (a ∷ w) e row) v = let is = class_is_description a.symbol row.0 in (ap in_braces is, ap is_comma is)
item_starts i u j (is_semantics_item k a c w x none row text) v = let is = class_is_semantics a.symbol row.0 in (ap in_braces is, ap is_comma is)
item_starts i u j (is_target_item k a c t kind none row is') v = let is = class_is_target a.symbol row.0 in (ap in_braces is, ap is_comma is)
item_starts i u j (is_tags_item k a c t w e row more) v = let is = class_is_tags a.symbol row.0 in (ap in_braces is, ap is_comma is)

items_start : (i : Items) (u : List Lexeme) (j : Items) → IsItems i u j → (v : List Lexeme) → is_comma (front v) ≡ false → is_comma (front (u ++ v)) ≡ false
items_start i u j (no_item k) v past = past
items_start i u j (item_more a b k w z x xs) v past = subst (λ q. is_comma (front q) ≡ false) (sym (append_assoc w z v)) (item_starts a w b x (z ++ v)).1

-- the items, and then what stands at the closing brace
pub items_read : (i : Items) (u : List Lexeme) (j : Items) → IsItems i u j → (k : ℕ) (v : List Lexeme) → length (u ++ v) ≤ k → in_braces (front v) ≡ false → is_comma (front v) ≡ false → run in_braces read_item close_heading k i (u ++ v) ≡ close_heading j v
items_read i u j (no_item a) k v len closed past = run_end in_braces read_item close_heading k a v closed
items_read i u j (item_more a b c w z x xs) zero v len closed past = absurd (let h : 0 < length w = item_some a w b x in omega (arith, len, h, length-append (w ++ z) v, length-append w z))
items_read i u j (item_more a b c w z x xs) (suc k) v len closed past =
    let h : 0 < length w = item_some a w b x in
    let shorter : length (z ++ v) ≤ k = omega (arith, len, h, length-append (w ++ z) v, length-append w z, length-append z v) in
    run_more in_braces read_item close_heading k a ((w ++ z) ++ v) (subst (λ q. in_braces (front q) ≡ true) (sym (append_assoc w z v)) (item_starts a w b x (z ++ v)).0)
    ∙ ap (λ q. read_item a q >>= λ r. run in_braces read_item close_heading k r.0 r.1) (append_assoc w z v)
    ∙ ap (λ q. q >>= λ r. run in_braces read_item close_heading k r.0 r.1) (item_read a w b x (z ++ v) (items_start b z c xs v past))
    ∙ items_read b z c xs k v shorter closed past

-- the word of a part and its brace
head_read : (is : Symbol → Bool) (which : Part) (a b : Lexeme) (v : List Lexeme) → IsRow (is ∷ is_open_brace ∷ []) (a ∷ b ∷ []) → (part_word is which (a ∷ b ∷ v) >>= mark is_open_brace) ≡ Ok v
unfolding part_word
head_read is which a b v row = rw row.0 (mark_read is_open_brace b v row.1.0)

pub heading_up_to : (a b : Lexeme) (w : List Lexeme) (j : Items) (c : Lexeme) (v : List Lexeme) → IsRow (is_info ∷ is_open_brace ∷ []) (a ∷ b ∷ []) → IsItems no_items w j → is_close_brace c.symbol ≡ true → read_heading (a ∷ b ∷ w ++ c ∷ v) ≡ heading_by j.semantics j.target (c ∷ v)
unfolding read_heading read_items close_heading
heading_up_to a b w j c v row xs ic =
    let is = class_is_close_brace c.symbol ic in
    bind_assoc (part_word is_info part.Info (a ∷ b ∷ w ++ c ∷ v) >>= mark is_open_brace) read_items (λ r. close_heading r.0 r.1)
    ∙ ap (λ q. q >>= λ z. read_items z >>= λ r. close_heading r.0 r.1) (head_read is_info part.Info a b (w ++ c ∷ v) row)
    ∙ items_read no_items w j xs (length (w ++ c ∷ v)) (c ∷ v) (omega arith) (ap in_braces is) (ap is_comma is)
    ∙ ap (λ y. cond (in_braces y) (unexpected (c ∷ v)) (heading_by j.semantics j.target (c ∷ v))) is

pub heading_read : (u : List Lexeme) (h : Heading) → IsHeading u h → (v : List Lexeme) → read_heading (u ++ v) ≡ Ok (h, v)
heading_read u h (is_heading a b c w j x y row xs ex ey ic) v =
    ap read_heading (ap (λ q. a ∷ b ∷ q) (append_assoc w (c ∷ []) v))
    ∙ heading_up_to a b w j c v row xs ic ∙ ap (λ q. heading_by q j.target (c ∷ v)) ex ∙ ap (λ q. heading_by (Some x) q (c ∷ v)) ey

-- the second part

names_read : (w : List Lexeme) → IsNames w → (k : ℕ) (v : List Lexeme) → length (w ++ v) ≤ k → in_braces (front v) ≡ false → passes in_braces name_turn k (w ++ v) ≡ Ok v
names_read w no_name k v len closed = passes_end in_braces name_turn k v closed
names_read w (name_more t c x row more) zero v len closed = absurd (omega (arith, len))
names_read w (name_more t c x row more) (suc k) v len closed =
    one_pass in_braces name_turn k (t ∷ c ∷ x ++ v) (class_declared_in t.symbol row.0)
    ∙ ap (λ q. q >>= mark is_semicolon >>= passes in_braces name_turn k) (mark_read is_declared t (c ∷ x ++ v) row.0)
    ∙ ap (λ q. q >>= passes in_braces name_turn k) (mark_read is_semicolon c (x ++ v) row.1.0)
    ∙ names_read x more k v (omega (arith, len)) closed

declared_read : (b : Lexeme) (w : List Lexeme) (c : Lexeme) (v : List Lexeme) → is_open_brace b.symbol ≡ true → IsNames w → is_close_brace c.symbol ≡ true → read_declared (b ∷ w ++ c ∷ v) ≡ Ok v
unfolding read_declared read_names
declared_read b w c v ib xs ic =
    ap (λ q. q >>= read_names >>= mark is_close_brace) (mark_read is_open_brace b (w ++ c ∷ v) ib)
    ∙ ap (λ q. q >>= mark is_close_brace) (names_read w xs (length (w ++ c ∷ v)) (c ∷ v) (omega arith) (ap in_braces (class_is_close_brace c.symbol ic)))
    ∙ mark_read is_close_brace c v ic

closing_read : (c : Lexeme) (v : List Lexeme) → is_semicolon c.symbol ≡ true → closing is_semicolon (c ∷ v) ≡ Ok v
unfolding closing
closing_read c v e = rw e refl

past_semicolon : (y : Symbol) → is_semicolon y ≡ true → PastFormula y
past_semicolon s.Semicolon e = (((refl, refl), refl), refl)
past_semicolon y e = cc

-- a formula isn't begun by a brace

abbrev Starts : List Lexeme → Type 0
Starts w = (t : Lexeme) × (ts : List Lexeme) × (w ≡ t ∷ ts) × (in_braces t.symbol ≡ true)

starts-append : (w v : List Lexeme) → Starts w → Starts (w ++ v)
starts-append w v (t, ts, e, is) = (t, ts ++ v, ap (λ q. q ++ v) e, is)

atom_starts : (y : Symbol) (f : Ltl) → atom_value y ≡ Some f → in_braces y ≡ true
atom_starts s.CloseBrace f e = cc
atom_starts y f e = refl

unary_starts : {n : ℕ} {w : List Lexeme} {f : Ltl} → IsUnary n w f → Starts w
unary_starts (is_atom {f = f} t e) = (t, [], refl, atom_starts t.symbol f e)
unary_starts (is_parens t c w o x e) = (t, w ++ c ∷ [], refl, ap in_braces o)
unary_starts (is_prefixed t op w e x) = (t, w, refl, ap in_braces e)

all_starts : {n : ℕ} {w : List Lexeme} {f : Ltl} → IsAll n w f → Starts w
all_starts (is_all w v x y) = starts-append w v (unary_starts x)

any_starts : {n : ℕ} {w : List Lexeme} {f : Ltl} → IsAny n w f → Starts w
any_starts (is_any w v x y) = starts-append w v (all_starts x)

arrow_starts : {n : ℕ} {w : List Lexeme} {f : Ltl} → IsArrow n w f → Starts w
arrow_starts (is_last x) = any_starts x
arrow_starts (is_implied w t v x e y) = starts-append w (t ∷ v) (any_starts x)

formula_starts : {n : ℕ} {w : List Lexeme} {f : Ltl} → IsFormula n w f → Starts w
formula_starts (is_arrow x) = arrow_starts x
formula_starts (is_lone w t op v x e y) = starts-append w (t ∷ v) (unary_starts x)

starts_in : (w v : List Lexeme) → Starts w → in_braces (front (w ++ v)) ≡ true
starts_in w v (t, ts, e, is) = subst (λ q. in_braces (front (q ++ v)) ≡ true) (sym e) is

entry_read : (m : ℕ) (kind : Section) (all : Sections) (f : Ltl) (w : List Lexeme) (c : Lexeme) (v : List Lexeme) → is_semicolon c.symbol ≡ true → read_formula (nested m) (w ++ c ∷ v) ≡ Ok (f, c ∷ v) → read_entry m kind all (w ++ c ∷ v) ≡ Ok (added kind f all, v)
unfolding read_entry
entry_read m kind all f w c v is text =
    ap (λ q. q >>= λ r. closing is_semicolon r.1 >>= λ z. Ok (added kind r.0 all, z)) text ∙ ap (λ q. q >>= λ z. Ok (added kind f all, z)) (closing_read c v is)

entries_read : (m : ℕ) {n : ℕ} {kind : Section} {all : Sections} {u : List Lexeme} {after : Sections} → IsEntries n kind all u after → n ≤ m → (k : ℕ) (v : List Lexeme) → length (u ++ v) ≤ k → in_braces (front v) ≡ false → turns in_braces (read_entry m kind) k all (u ++ v) ≡ Ok (after, v)
entries_read m {kind = kind} (no_entry a) le k v len closed = turns_end in_braces (read_entry m kind) k a v closed
entries_read m (entry_more a f w c x after text is xs) le zero v len closed = absurd (omega (arith, len, length-append (w ++ c ∷ x) v, length-append w (c ∷ x)))
entries_read m {kind = kind} (entry_more a f w c x after text is xs) le (suc k) v len closed =
    let shorter : length (x ++ v) ≤ k = omega (arith, len, length-append (w ++ c ∷ x) v, length-append w (c ∷ x), length-append x v) in
    one_turn in_braces (read_entry m kind) k a ((w ++ c ∷ x) ++ v) (subst (λ q. in_braces (front q) ≡ true) (sym (append_assoc w (c ∷ x) v)) (starts_in w (c ∷ x ++ v) (formula_starts text)))
    ∙ ap (λ q. read_entry m kind a q >>= λ r. turns in_braces (read_entry m kind) k r.0 r.1) (append_assoc w (c ∷ x) v)
    ∙ ap (λ q. q >>= λ r. turns in_braces (read_entry m kind) k r.0 r.1) (entry_read m kind a f w c (x ++ v) is (formula_read text m le (c ∷ x ++ v) (past_semicolon c.symbol is)))
    ∙ entries_read m xs le k v shorter closed

part_read : (m n : ℕ) (i : Parts) (u : List Lexeme) (j : Parts) → IsPart n i u j → n ≤ m → (v : List Lexeme) → read_part m i (u ++ v) ≡ Ok (j, v)
unfolding read_part read_inputs read_outputs read_section read_entries
part_read m n i u j (is_inputs_part k a b c w e row xs ic) le v =
    ap (λ q. read_part m k (a ∷ b ∷ q)) (append_assoc w (c ∷ []) v)
    ∙ ap (λ y. part_by m y k (a ∷ b ∷ w ++ c ∷ v)) (class_is_inputs a.symbol row.0)
    ∙ ap (λ y. cond y (unexpected (a ∷ b ∷ w ++ c ∷ v)) (read_declared (b ∷ w ++ c ∷ v) >>= λ z. Ok (record k { inputs = true }, z))) e
    ∙ ap (λ q. q >>= λ z. Ok (record k { inputs = true }, z)) (declared_read b w c v row.1.0 xs ic)
part_read m n i u j (is_outputs_part k a b c w e row xs ic) le v =
    ap (λ q. read_part m k (a ∷ b ∷ q)) (append_assoc w (c ∷ []) v)
    ∙ ap (λ y. part_by m y k (a ∷ b ∷ w ++ c ∷ v)) (class_is_outputs a.symbol row.0)
    ∙ ap (λ y. cond y (unexpected (a ∷ b ∷ w ++ c ∷ v)) (read_declared (b ∷ w ++ c ∷ v) >>= λ z. Ok (record k { outputs = true }, z))) e
    ∙ ap (λ q. q >>= λ z. Ok (record k { outputs = true }, z)) (declared_read b w c v row.1.0 xs ic)
part_read m n i u j (is_section_part k kind a b c w after is ib xs ic) le v =
    ap (λ q. read_part m k (a ∷ b ∷ q)) (append_assoc w (c ∷ []) v)
    ∙ ap (λ y. part_by m y k (a ∷ b ∷ w ++ c ∷ v)) is
    ∙ ap (λ q. q >>= λ z. turns in_braces (read_entry m kind) (length z) k.sections z >>= λ r. mark is_close_brace r.1 >>= λ y. Ok (record k { sections = r.0 }, y)) (mark_read is_open_brace b (w ++ c ∷ v) ib)
    ∙ ap (λ q. q >>= λ r. mark is_close_brace r.1 >>= λ y. Ok (record k { sections = r.0 }, y)) (entries_read m xs le (length (w ++ c ∷ v)) (c ∷ v) (omega arith) (ap in_braces (class_is_close_brace c.symbol ic)))
    ∙ ap (λ q. q >>= λ y. Ok (record k { sections = after }, y)) (mark_read is_close_brace c v ic)

part_starts : {n : ℕ} {i : Parts} {u : List Lexeme} {j : Parts} → IsPart n i u j → Starts u
part_starts (is_inputs_part k a b c w e row xs ic) = (a, b ∷ w ++ c ∷ [], refl, ap in_braces (class_is_inputs a.symbol row.0))
part_starts (is_outputs_part k a b c w e row xs ic) = (a, b ∷ w ++ c ∷ [], refl, ap in_braces (class_is_outputs a.symbol row.0))
part_starts (is_section_part k kind a b c w after is ib xs ic) = (a, b ∷ w ++ c ∷ [], refl, ap in_braces is)

parts_read : (m n : ℕ) (i : Parts) (u : List Lexeme) (j : Parts) → IsParts n i u j → n ≤ m → (k : ℕ) (v : List Lexeme) → length (u ++ v) ≤ k → in_braces (front v) ≡ false → run in_braces (read_part m) close_main k i (u ++ v) ≡ close_main j v
parts_read m n i u j (no_part a) le k v len closed = run_end in_braces (read_part m) close_main k a v closed
parts_read m n i u j (part_more a b c w z x xs) le zero v len closed = absurd (let h : 0 < length w = part_some x in omega (arith, len, h, length-append (w ++ z) v, length-append w z))
parts_read m n i u j (part_more a b c w z x xs) le (suc k) v len closed =
    let h : 0 < length w = part_some x in
    let shorter : length (z ++ v) ≤ k = omega (arith, len, h, length-append (w ++ z) v, length-append w z, length-append z v) in
    run_more in_braces (read_part m) close_main k a ((w ++ z) ++ v) (subst (λ q. in_braces (front q) ≡ true) (sym (append_assoc w z v)) (starts_in w (z ++ v) (part_starts x)))
    ∙ ap (λ q. read_part m a q >>= λ r. run in_braces (read_part m) close_main k r.0 r.1) (append_assoc w z v)
    ∙ ap (λ q. q >>= λ r. run in_braces (read_part m) close_main k r.0 r.1) (part_read m n a w b x le (z ++ v))
    ∙ parts_read m n b z c xs le k v shorter closed

pub main_up_to : (m n : ℕ) → n ≤ m → (a b : Lexeme) (w : List Lexeme) (j : Parts) (c : Lexeme) (v : List Lexeme) → IsRow (is_main ∷ is_open_brace ∷ []) (a ∷ b ∷ []) → IsParts n no_parts w j → is_close_brace c.symbol ≡ true → read_main m (a ∷ b ∷ w ++ c ∷ v) ≡ sides j.inputs j.outputs j.sections (c ∷ v) v
unfolding read_main read_parts
main_up_to m n le a b w j c v row xs ic =
    let is = class_is_close_brace c.symbol ic in
    bind_assoc (part_word is_main part.Main (a ∷ b ∷ w ++ c ∷ v) >>= mark is_open_brace) (read_parts m) (λ r. close_main r.0 r.1)
    ∙ ap (λ q. q >>= λ z. read_parts m z >>= λ r. close_main r.0 r.1) (head_read is_main part.Main a b (w ++ c ∷ v) row)
    ∙ parts_read m n no_parts w j xs le (length (w ++ c ∷ v)) (c ∷ v) (omega arith) (ap in_braces is)
    ∙ closes_main j c v is

pub main_read : (m n : ℕ) (u : List Lexeme) (all : Sections) → IsMain n u all → n ≤ m → (v : List Lexeme) → read_main m (u ++ v) ≡ Ok (all, v)
main_read m n u all (is_whole_main a b c w j row xs ei eo ic) le v =
    ap (read_main m) (ap (λ q. a ∷ b ∷ q) (append_assoc w (c ∷ []) v))
    ∙ main_up_to m n le a b w j c v row xs ic ∙ ap (λ q. sides q j.outputs j.sections (c ∷ v) v) ei ∙ ap (λ q. sides true q j.sections (c ∷ v) v) eo
