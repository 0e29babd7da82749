-- What reading the first part gives is one, and where it stops the tokens before begin one.
use Rattle.std.proofs.Common.{◌≡◌, ℕ, ◌<◌, ◌≤◌, Bool, true, false, cond, List, [], ◌∷◌, ◌++◌, length, drop, Ok, Err, Option, Some, None, sym, refl, ap, ◌∙◌, subst, arith, append_assoc, append-nil}
use Rattle.std.specs.Prelude.{is_some}
use Rattle.word_core.specs.declared.names.Target.{Target}
use Rattle.tlsf_basic.specs.declared.faults.Part.{Part}
use Rattle.tlsf_basic.specs.declared.faults.Part.TheVariants as part
use Rattle.tlsf_basic.specs.declared.faults.TextFault.{TextFault}
use Rattle.tlsf_basic.specs.declared.headings.Semantics.{Semantics}
use Rattle.tlsf_basic.specs.declared.headings.PlacedTarget.{PlacedTarget}
use Rattle.tlsf_basic.specs.declared.headings.Items.{Items}
use Rattle.tlsf_basic.specs.declared.headings.Heading.{Heading}
use Rattle.tlsf_basic.specs.declared.symbols.Symbol.{Symbol}
use Rattle.tlsf_basic.specs.declared.symbols.Symbol.TheVariants as s
use Rattle.tlsf_basic.specs.declared.symbols.Lexeme.{Lexeme}
use Rattle.tlsf_basic.specs.Reads.{Halt, Read, Past, ◌>>=◌, front, expected_by, expected, unexpected, missing, missing_by, passes}
use Rattle.tlsf_basic.specs.Marks.{mark, part_word, in_braces, is_title, is_description, is_semantics, is_target, is_tags, is_colon, is_text, is_comma, is_kind, is_info, is_open_brace, is_close_brace, is_strict, is_name}
use Rattle.tlsf_basic.specs.Headings.{read_string, kind_by, read_kind, strict_by, semantics_by, read_semantics, read_tags, read_title, read_description, read_tag_item, read_semantics_item, read_target_item, item_by, read_item, read_items, heading_by, close_heading, read_heading}
use Rattle.tlsf_basic.specs.Values.{no_items}
use Rattle.tlsf_basic.specs.Rows.{IsRow, BeginsRow}
use Rattle.tlsf_basic.specs.TextGrammar.{IsSemantics, kind_alone, kind_first, strict_first, IsMoreTags, no_tag, tag_more, IsItem, is_title_item, is_description_item, is_semantics_item, is_target_item, is_tags_item, IsItems, no_item, item_more, IsHeading, is_heading}
use Rattle.tlsf_basic.specs.TextBegins.{BeginsSemantics, in_kind_first, in_strict_first, BeginsItem, no_item_yet, in_title, in_description, at_semantics, in_semantics, in_target, at_tags, in_tags, BeginsItems, in_items, BeginsHeading, at_info, in_info}
use Rattle.tlsf_basic.specs.TextFaults.{LacksInHeading, no_info, no_semantics, no_target}
use Rattle.tlsf_basic.proofs.Good.{Texts, Stops, By, Passed, valued, Alike, Good, weaker, behind_token, then, past-then, past-past, past_value, once_each, gives, map_value, at_unexpected, choose, IsOne, StopsAt, at_token}
use Rattle.tlsf_basic.proofs.Loops.{run, loop, bind_assoc, halt_of, by_valued, passes_run, from_valued}
use Rattle.tlsf_basic.proofs.Stopping.{ends_operand, ends-append, Lacks, Stop, not_expected, lacking, Carried, stop_behind}
use Rattle.tlsf_basic.proofs.RowFacts.{Class, Classes, title_class, description_class, semantics_class, target_class, tags_class, colon_class, text_class, comma_class, kind_class, strict_class, name_class, info_class, open_brace_class, close_brace_class, row_quiet, begins_row_quiet, RowStop, at_mark, at_pair}

abbrev pub Quiet : List Lexeme → Type 0
Quiet w = ends_operand w ≡ false

-- a stop at which no operand ends
abbrev pub Plain : (List Lexeme → Type 0) → Stops
Plain B p f v = B p × (f ≡ expected v) × Quiet p

abbrev pub KindText : Texts PlacedTarget
KindText u k = (t : Lexeme) × (kind : Target) × (u ≡ t ∷ []) × (t.symbol ≡ s.Kind kind) × (k ≡ record { target = kind; place = t.from })

abbrev pub AtOnce : Stops
AtOnce p f v = (p ≡ []) × (f ≡ expected v)

abbrev pub ItemText : Items → Texts Items
ItemText i u after = IsItem i u after × Quiet u

abbrev pub ItemStop : Items → Stops
ItemStop i = Plain (BeginsItem i)

abbrev SemanticsText : Texts Semantics
SemanticsText u x = IsSemantics u x × Quiet u

abbrev SemanticsStop : Stops
SemanticsStop = Plain BeginsSemantics

abbrev TagTurn : Unit {0} → Texts (Unit {0})
TagTurn a u b = (c : Lexeme) × (t : Lexeme) × (u ≡ c ∷ t ∷ []) × IsRow (is_comma ∷ is_name ∷ []) (c ∷ t ∷ [])

abbrev MoreTags : Unit {0} → Texts (Unit {0})
MoreTags a u b = IsMoreTags u

abbrev TagsStop : Unit {0} → Stops
TagsStop a p f v = (w : List Lexeme) × (q : List Lexeme) × (p ≡ w ++ q) × IsMoreTags w × BeginsRow (is_comma ∷ is_name ∷ []) q × (f ≡ expected v)

comma_is : (y : Symbol) → is_comma y ≡ true → y ≡ s.Comma
comma_is s.Comma e = refl
comma_is y e = cc

pub kind_is : (y : Symbol) → is_kind y ≡ true → (kind : Target) × (y ≡ s.Kind kind)
kind_is (s.Kind kind) e = (kind, refl)
kind_is y e = cc

none_of : {A : Type 0} (o : Option A) → is_some o ≡ false → o ≡ None
none_of None e = refl
none_of (Some x) e = cc

semantics_quiet : (u : List Lexeme) (x : Semantics) → IsSemantics u x → Quiet u
semantics_quiet u x (kind_alone k kind is) = row_quiet (is_kind ∷ []) (kind_class, tt) (k ∷ []) (ap is_kind is, tt)
semantics_quiet u x (kind_first k kind c t is row) = row_quiet (is_kind ∷ is_comma ∷ is_strict ∷ []) (kind_class, (comma_class, (strict_class, tt))) (k ∷ c ∷ t ∷ []) (ap is_kind is, row)
semantics_quiet u x (strict_first t c k kind row is) = row_quiet (is_strict ∷ is_comma ∷ is_kind ∷ []) (strict_class, (comma_class, (kind_class, tt))) (t ∷ c ∷ k ∷ []) (row.0, (row.1.0, (ap is_kind is, tt)))

tags_quiet : (w : List Lexeme) → IsMoreTags w → Quiet w
tags_quiet w no_tag = refl
tags_quiet w (tag_more c t v row more) = ends-append (c ∷ t ∷ []) v (row_quiet (is_comma ∷ is_name ∷ []) (comma_class, (name_class, tt)) (c ∷ t ∷ []) row) (tags_quiet v more)

module _ (Fits : TextFault → Type 0) where
  at_string : (w : List Lexeme) → Good Fits (λ u a. IsRow (is_colon ∷ is_text ∷ []) u) (RowStop (is_colon ∷ is_text ∷ [])) (Passed read_string) w (valued (read_string w))
  unfolding read_string
  at_string w = at_pair Fits is_colon is_text colon_class text_class w

  -- a word, `:` and a string
  row_item : (head : Symbol → Bool) → Class head → (i after : Items) (t : Lexeme) (ts : List Lexeme) → head t.symbol ≡ true
      → ((u : List Lexeme) → IsRow (head ∷ is_colon ∷ is_text ∷ []) u → IsItem i u after) → ((p : List Lexeme) → BeginsRow (head ∷ is_colon ∷ is_text ∷ []) p → BeginsItem i p)
      → Good Fits (ItemText i) (ItemStop i) (By (λ x. read_string (drop 1 x) >>= λ v. Ok (after, v))) (t ∷ ts) (read_string ts >>= λ v. Ok (after, v))
  row_item head k i after t ts is text begins =
      let classes : Classes (head ∷ is_colon ∷ is_text ∷ []) = (k, (colon_class, (text_class, tt))) in
      behind_token Fits (λ u b. (b ≡ after) × IsRow (is_colon ∷ is_text ∷ []) u) (ItemText i) (RowStop (is_colon ∷ is_text ∷ [])) (ItemStop i) (By (λ x. read_string x >>= λ v. Ok (after, v))) (By (λ x. read_string (drop 1 x) >>= λ v. Ok (after, v))) t ts (read_string ts >>= λ v. Ok (after, v))
      (λ u b h. (subst (IsItem i (t ∷ u)) (sym h.0) (text (t ∷ u) (is, h.1)), row_quiet (head ∷ is_colon ∷ is_text ∷ []) classes (t ∷ u) (is, h.1)))
      (λ p f v h. (begins (t ∷ p) (is, h.0), h.1, begins_row_quiet (head ∷ is_colon ∷ is_text ∷ []) classes (t ∷ p) (is, h.0)))
      (λ x q h. h)
      (past_value Fits (λ u a. IsRow (is_colon ∷ is_text ∷ []) u) (λ u b. (b ≡ after) × IsRow (is_colon ∷ is_text ∷ []) u) (RowStop (is_colon ∷ is_text ∷ [])) (RowStop (is_colon ∷ is_text ∷ [])) read_string after ts (read_string ts)
      (λ u h. (refl, h)) (λ p f v h. h) (at_string ts))

  at_title : (i : Items) (w : List Lexeme) → s.Title ≡ front w → Good Fits (ItemText i) (ItemStop i) (By (read_title i)) w (read_title i w)
  unfolding read_title
  at_title i [] is = cc
  at_title i (t ∷ ts) is =
      once_each Fits (ItemText i) (ItemStop i) i.title (λ x. read_string (drop 1 x) >>= λ v. Ok (record i { title = true }, v)) (t ∷ ts) (no_item_yet i, refl, refl)
      (λ e. row_item is_title title_class i (record i { title = true }) t ts (ap is_title (sym is)) (λ u h. is_title_item i u e h) (λ p h. in_title i p e h))

  at_description : (i : Items) (w : List Lexeme) → s.Description ≡ front w → Good Fits (ItemText i) (ItemStop i) (By (read_description i)) w (read_description i w)
  unfolding read_description
  at_description i [] is = cc
  at_description i (t ∷ ts) is =
      once_each Fits (ItemText i) (ItemStop i) i.description (λ x. read_string (drop 1 x) >>= λ v. Ok (record i { description = true }, v)) (t ∷ ts) (no_item_yet i, refl, refl)
      (λ e. row_item is_description description_class i (record i { description = true }) t ts (ap is_description (sym is)) (λ u h. is_description_item i u e h) (λ p h. in_description i p e h))

  -- kinds

  no_kind : (v : List Lexeme) → Alike [] v → read_kind v ≡ Err (expected [], v)
  unfolding read_kind
  no_kind [] al = refl
  no_kind (u ∷ us) al = absurd al

  other_kind : (t : Lexeme) (ts : List Lexeme) → ((us : List Lexeme) → kind_by t.symbol t us ≡ unexpected (t ∷ us)) → (v : List Lexeme) → Alike (t ∷ ts) v → read_kind v ≡ Err (expected (t ∷ ts), v)
  unfolding read_kind
  other_kind t ts e [] al = absurd al
  other_kind t ts e (u ∷ us) al = subst (λ x. read_kind (x ∷ us) ≡ Err (expected (t ∷ ts), x ∷ us)) al (e us)

  at_kind : (w : List Lexeme) → Good Fits KindText AtOnce (By read_kind) w (read_kind w)
  unfolding read_kind
  at_kind [] = ([], refl, (refl, refl), λ fits v al. no_kind v al)
  at_kind (t ∷ ts) = go t.symbol refl where
    go : (y : Symbol) → t.symbol ≡ y → Good Fits KindText AtOnce (By read_kind) (t ∷ ts) (kind_by y t ts)
    go (s.Kind kind) e = (t ∷ [], refl, (t, kind, refl, e, refl), λ v al. ap (λ y. kind_by y t v) e)
    go y e = ([], refl, (refl, refl), λ fits v al. other_kind t ts (λ us. ap (λ y. kind_by y t us) e) v al)

  -- `, Strict` behind a kind, or not
  strict-go : (u : List Lexeme) (k : Lexeme) (kind : Target) → u ≡ k ∷ [] → k.symbol ≡ s.Kind kind → (y : Symbol) (v : List Lexeme) → y ≡ front v → Good Fits (λ x b. SemanticsText (u ++ x) b) (λ p f z. SemanticsStop (u ++ p) f z) (By (strict_by y kind)) v (strict_by y kind v)
  strict-go u k kind eu is s.Comma [] e = cc
  strict-go u k kind eu is s.Comma (c ∷ cs) e =
      behind_token Fits (λ x b. SemanticsText (u ++ c ∷ x) b) (λ x b. SemanticsText (u ++ x) b) (λ p f z. SemanticsStop (u ++ c ∷ p) f z) (λ p f z. SemanticsStop (u ++ p) f z)
      (By (λ x. mark is_strict x >>= λ v. Ok (record { kind = kind; strict = true }, v))) (By (λ x. mark is_strict (drop 1 x) >>= λ v. Ok (record { kind = kind; strict = true }, v))) c cs (mark is_strict cs >>= λ v. Ok (record { kind = kind; strict = true }, v))
      (λ x b h. h) (λ p f z h. h) (λ x q h. h)
      (past_value Fits (IsOne is_strict) (λ x b. SemanticsText (u ++ c ∷ x) b) (StopsAt is_strict expected_by) (λ p f z. SemanticsStop (u ++ c ∷ p) f z) (mark is_strict) (record { kind = kind; strict = true }) cs (mark is_strict cs)
      (λ x h. text x h.0 h.1 h.2) (λ p f z h. stop p f z h.0 h.1) (at_mark Fits is_strict strict_class cs))
    where
      text : (x : List Lexeme) (t : Lexeme) → x ≡ t ∷ [] → is_strict t.symbol ≡ true → SemanticsText (u ++ c ∷ x) (record { kind = kind; strict = true })
      text x t ex it =
          let whole : IsSemantics (k ∷ c ∷ t ∷ []) (record { kind = kind; strict = true }) = kind_first k kind c t is (ap is_comma (sym e), (it, tt)) in
          subst (λ q. SemanticsText (q ++ c ∷ x) (record { kind = kind; strict = true })) (sym eu) (subst (λ q. SemanticsText (k ∷ c ∷ q) (record { kind = kind; strict = true })) (sym ex) (whole, semantics_quiet (k ∷ c ∷ t ∷ []) (record { kind = kind; strict = true }) whole))

      stop : (p : List Lexeme) (f : TextFault) (z : List Lexeme) → p ≡ [] → f ≡ expected z → SemanticsStop (u ++ c ∷ p) f z
      stop p f z ep fault =
          subst (λ q. SemanticsStop (q ++ c ∷ p) f z) (sym eu) (subst (λ q. SemanticsStop (k ∷ c ∷ q) f z) (sym ep)
          (in_kind_first (k ∷ c ∷ []) (ap is_kind is, (ap is_comma (sym e), tt)), fault, begins_row_quiet (is_kind ∷ is_comma ∷ is_strict ∷ []) (kind_class, (comma_class, (strict_class, tt))) (k ∷ c ∷ []) (ap is_kind is, (ap is_comma (sym e), tt))))
  strict-go u k kind eu is y v e =
      let whole : IsSemantics (k ∷ []) (record { kind = kind; strict = false }) = kind_alone k kind is in
      gives Fits (λ x b. SemanticsText (u ++ x) b) (λ p f z. SemanticsStop (u ++ p) f z) (record { kind = kind; strict = false }) v
      (subst (λ q. SemanticsText (q ++ []) (record { kind = kind; strict = false })) (sym eu) (whole, semantics_quiet (k ∷ []) (record { kind = kind; strict = false }) whole))

  at_kind_first : (w : List Lexeme) → Good Fits SemanticsText SemanticsStop (By (λ x. read_kind x >>= λ r. strict_by (front r.1) r.0.target r.1)) w (read_kind w >>= λ r. strict_by (front r.1) r.0.target r.1)
  at_kind_first w =
      then Fits KindText AtOnce read_kind (λ r. strict_by (front r.1) r.0.target r.1) SemanticsText SemanticsStop w (read_kind w) (λ r. strict_by (front r.1) r.0.target r.1)
      (at_kind w) (λ p f v h. (subst BeginsSemantics (sym h.0) (in_kind_first [] tt), h.1, subst Quiet (sym h.0) refl))
      (λ u a v e h. subst (λ y. Good Fits (λ x b. SemanticsText (u ++ x) b) (λ p f z. SemanticsStop (u ++ p) f z) (By (λ x. strict_by (front x) y x)) v (strict_by (front v) y v)) (sym (ap (λ r. r.target) h.4))
      (choose Fits (λ x b. SemanticsText (u ++ x) b) (λ p f z. SemanticsStop (u ++ p) f z) (λ y. strict_by y h.1) (front v) v (strict_by (front v) h.1 v) refl (strict-go u h.0 h.1 h.2 h.3 (front v) v refl)))

  at_strict_first : (w : List Lexeme) → s.Strict ≡ front w → Good Fits SemanticsText SemanticsStop (By (semantics_by s.Strict)) w (semantics_by s.Strict w)
  at_strict_first [] is = cc
  at_strict_first (t ∷ ts) is =
      behind_token Fits (λ x b. SemanticsText (t ∷ x) b) SemanticsText (λ p f z. SemanticsStop (t ∷ p) f z) SemanticsStop
      (By (λ x. mark is_comma x >>= λ v. read_kind v >>= λ r. Ok (record { kind = r.0.target; strict = true }, r.1))) (By (semantics_by s.Strict)) t ts (semantics_by s.Strict (t ∷ ts))
      (λ x b h. h) (λ p f z h. h) (λ x q h. h)
      (past-then Fits (IsOne is_comma) (StopsAt is_comma expected_by) (mark is_comma) (λ v. read_kind v >>= λ r. Ok (record { kind = r.0.target; strict = true }, r.1)) (λ x b. SemanticsText (t ∷ x) b) (λ p f z. SemanticsStop (t ∷ p) f z) ts (mark is_comma ts) (λ v. read_kind v >>= λ r. Ok (record { kind = r.0.target; strict = true }, r.1))
      (at_mark Fits is_comma comma_class ts)
      (λ p f z h. subst (λ q. SemanticsStop (t ∷ q) f z) (sym h.0) (stop (t ∷ []) f z (ap is_strict (sym is), tt) h.1))
      (λ u v e h. map_value Fits KindText (λ x b. SemanticsText (t ∷ u ++ x) b) AtOnce (λ p f z. SemanticsStop (t ∷ u ++ p) f z) read_kind (λ k. record { kind = k.target; strict = true }) v (read_kind v)
      (λ x k m. text u x k h.0 h.1 h.2 m)
      (λ p f z m. subst (λ q. SemanticsStop (t ∷ q ++ p) f z) (sym h.1) (subst (λ q. SemanticsStop (t ∷ h.0 ∷ q) f z) (sym m.0) (stop (t ∷ h.0 ∷ []) f z (ap is_strict (sym is), (h.2, tt)) m.1)))
      (at_kind v)))
    where
      stop : (p : List Lexeme) (f : TextFault) (z : List Lexeme) → BeginsRow (is_strict ∷ is_comma ∷ is_kind ∷ []) p → f ≡ expected z → SemanticsStop p f z
      stop p f z row fault = (in_strict_first p row, fault, begins_row_quiet (is_strict ∷ is_comma ∷ is_kind ∷ []) (strict_class, (comma_class, (kind_class, tt))) p row)

      text : (u x : List Lexeme) (k : PlacedTarget) (c : Lexeme) → u ≡ c ∷ [] → is_comma c.symbol ≡ true → KindText x k → SemanticsText (t ∷ u ++ x) (record { kind = k.target; strict = true })
      text u x k c eu ic (m, kind, ex, im, ek) =
          let whole : IsSemantics (t ∷ c ∷ m ∷ []) (record { kind = kind; strict = true }) = strict_first t c m kind (ap is_strict (sym is), (ic, tt)) im in
          subst (λ (y : Target). SemanticsText (t ∷ u ++ x) (record { kind = y; strict = true })) (sym (ap (λ r. r.target) ek))
          (subst (λ q. SemanticsText (t ∷ q ++ x) (record { kind = kind; strict = true })) (sym eu) (subst (λ q. SemanticsText (t ∷ c ∷ q) (record { kind = kind; strict = true })) (sym ex) (whole, semantics_quiet (t ∷ c ∷ m ∷ []) (record { kind = kind; strict = true }) whole)))

  semantics-go : (y : Symbol) (w : List Lexeme) → y ≡ front w → Good Fits SemanticsText SemanticsStop (By (semantics_by y)) w (semantics_by y w)
  semantics-go s.Strict w is = at_strict_first w is
  semantics-go y w is = at_kind_first w

  at_semantics_text : (w : List Lexeme) → Good Fits SemanticsText SemanticsStop (By read_semantics) w (read_semantics w)
  unfolding read_semantics
  at_semantics_text w = choose Fits SemanticsText SemanticsStop semantics_by (front w) w (semantics_by (front w) w) refl (semantics-go (front w) w refl)

  -- names behind the first one

  abbrev tag_turn : List Lexeme → Past
  tag_turn x = mark is_name (drop 1 x)

  tag_turn_good : (a : Unit {0}) (w : List Lexeme) → is_comma (front w) ≡ true → Good Fits (TagTurn a) (RowStop (is_comma ∷ is_name ∷ [])) (By (λ x. valued (tag_turn x))) w (valued (tag_turn w))
  tag_turn_good a [] go = cc
  tag_turn_good a (c ∷ cs) go =
      behind_token Fits (IsOne is_name) (TagTurn a) (StopsAt is_name expected_by) (RowStop (is_comma ∷ is_name ∷ [])) (Passed (mark is_name)) (By (λ x. valued (tag_turn x))) c cs (valued (mark is_name cs))
      (λ u b h. (c, h.0, ap (λ q. c ∷ q) h.1, (go, (h.2, tt))))
      (λ p f v h. (subst (λ q. BeginsRow (is_comma ∷ is_name ∷ []) (c ∷ q)) (sym h.0) (go, tt), h.1))
      (λ x q h. by_valued (mark is_name x) q h) (at_mark Fits is_name name_class cs)

  tags_closed : (a : Unit {0}) (w : List Lexeme) → is_comma (front w) ≡ false → Good Fits (MoreTags a) (TagsStop a) (By (λ x. Ok (tt, x))) w (Ok (tt, w))
  tags_closed a w e = ([], refl, no_tag, λ v al. refl)

  tags_more_text : (a : Unit {0}) (u : List Lexeme) (b : Unit {0}) (v : List Lexeme) (c : Unit {0}) → TagTurn a u b → MoreTags b v c → MoreTags a (u ++ v) c
  tags_more_text a u b v d (c, t, eu, row) more = subst (λ q. IsMoreTags (q ++ v)) (sym eu) (tag_more c t v row more)

  tags_more_stop : (a : Unit {0}) (u : List Lexeme) (b : Unit {0}) (p : List Lexeme) (f : TextFault) (v : List Lexeme) → TagTurn a u b → TagsStop b p f v → TagsStop a (u ++ p) f v
  tags_more_stop a u b p f v (c, t, eu, row) (w, q, e, more, begun, fault) = (c ∷ t ∷ w, q, ap (λ z. z ++ p) eu ∙ ap (λ z. c ∷ t ∷ z) e, tag_more c t w row more, begun, fault)

  tags_some : (a : Unit {0}) (u : List Lexeme) (b : Unit {0}) → TagTurn a u b → 0 < length u
  tags_some a u b (c, t, eu, row) = subst (λ q. 0 < length q) (sym eu) (omega arith)

  bind_ok : (r : Past) → (r >>= λ x. Ok x) ≡ r
  bind_ok (Ok x) = refl
  bind_ok (Err e) = refl

  tags_same : (w : List Lexeme) → run is_comma (λ a x. valued (tag_turn x)) (λ a x. Ok (tt, x)) (length w) tt w ≡ valued (passes is_comma tag_turn (length w) w)
  tags_same w = sym (passes_run is_comma tag_turn (λ x. Ok x) (length w) w) ∙ ap valued (bind_ok (passes is_comma tag_turn (length w) w))

  at_more_tags : (w : List Lexeme) → Good Fits (MoreTags tt) (TagsStop tt) (Passed (λ x. passes is_comma tag_turn (length x) x)) w (valued (passes is_comma tag_turn (length w) w))
  at_more_tags w =
      subst (Good Fits (MoreTags tt) (TagsStop tt) (Passed (λ x. passes is_comma tag_turn (length x) x)) w) (tags_same w)
      (weaker Fits (MoreTags tt) (MoreTags tt) (TagsStop tt) (TagsStop tt) (λ x q. (k : ℕ) → length x ≤ k → run is_comma (λ a x. valued (tag_turn x)) (λ a x. Ok (tt, x)) k tt x ≡ q) (Passed (λ x. passes is_comma tag_turn (length x) x)) w
      (run is_comma (λ a x. valued (tag_turn x)) (λ a x. Ok (tt, x)) (length w) tt w)
      (λ u a h. h) (λ p f v h. h) (λ x q h. from_valued (passes is_comma tag_turn (length x) x) q (sym (tags_same x) ∙ h (length x) (omega arith)))
      (loop Fits is_comma (λ a x. valued (tag_turn x)) (λ a x. valued (tag_turn x)) (λ a x. Ok (tt, x)) (λ a x. Ok (tt, x)) TagTurn (λ a. RowStop (is_comma ∷ is_name ∷ [])) MoreTags TagsStop
      tag_turn_good tags_closed (λ a p f v h. ([], p, refl, no_tag, h.0, h.1)) tags_more_text tags_more_stop tags_some
      (λ a e. absurd (let x : false ≡ true = e in cc)) (λ a e. absurd (let x : false ≡ true = e in cc)) (length w) tt w (omega arith)))

  -- items

  at_tag_item : (i : Items) (w : List Lexeme) → s.Tags ≡ front w → Good Fits (ItemText i) (ItemStop i) (By (read_tag_item i)) w (read_tag_item i w)
  unfolding read_tag_item read_tags
  at_tag_item i [] is = cc
  at_tag_item i (t ∷ ts) is =
      once_each Fits (ItemText i) (ItemStop i) i.tags (λ x. mark is_colon (drop 1 x) >>= λ v. read_tags v >>= λ u. Ok (record i { tags = true }, u)) (t ∷ ts) (no_item_yet i, refl, refl)
      (λ e. behind_token Fits (λ x b. ItemText i (t ∷ x) b) (ItemText i) (λ p f z. ItemStop i (t ∷ p) f z) (ItemStop i)
      (By (λ x. mark is_colon x >>= λ v. read_tags v >>= λ u. Ok (record i { tags = true }, u))) (By (λ x. mark is_colon (drop 1 x) >>= λ v. read_tags v >>= λ u. Ok (record i { tags = true }, u))) t ts (mark is_colon ts >>= λ v. read_tags v >>= λ u. Ok (record i { tags = true }, u))
      (λ x b h. h) (λ p f z h. h) (λ x q h. h)
      (past-then Fits (IsOne is_colon) (StopsAt is_colon expected_by) (mark is_colon) (λ v. read_tags v >>= λ u. Ok (record i { tags = true }, u)) (λ x b. ItemText i (t ∷ x) b) (λ p f z. ItemStop i (t ∷ p) f z) ts (mark is_colon ts) (λ v. read_tags v >>= λ u. Ok (record i { tags = true }, u))
      (at_mark Fits is_colon colon_class ts)
      (λ p f z h. subst (λ q. ItemStop i (t ∷ q) f z) (sym h.0) (row e (t ∷ []) f z (head, tt) h.1))
      (λ u v eu h. past_value Fits (λ x a. ItemText i (t ∷ u ++ x) (record i { tags = true })) (λ x b. ItemText i (t ∷ u ++ x) b) (λ p f z. ItemStop i (t ∷ u ++ p) f z) (λ p f z. ItemStop i (t ∷ u ++ p) f z) read_tags (record i { tags = true }) v (read_tags v)
      (λ x m. m) (λ p f z m. m)
      (past-past Fits (IsOne is_name) (StopsAt is_name expected_by) (mark is_name) (λ x. passes is_comma tag_turn (length x) x) (λ x a. ItemText i (t ∷ u ++ x) (record i { tags = true })) (λ p f z. ItemStop i (t ∷ u ++ p) f z) v (mark is_name v) (λ x. passes is_comma tag_turn (length x) x)
      (at_mark Fits is_name name_class v)
      (λ p f z m. subst (λ q. ItemStop i (t ∷ q ++ p) f z) (sym h.1) (subst (λ q. ItemStop i (t ∷ h.0 ∷ q) f z) (sym m.0) (row e (t ∷ h.0 ∷ []) f z (head, (h.2, tt)) m.1)))
      (λ x z ez m. weaker Fits (MoreTags tt) (λ y a. ItemText i (t ∷ u ++ (x ++ y)) (record i { tags = true })) (TagsStop tt) (λ p f r. ItemStop i (t ∷ u ++ (x ++ p)) f r) (Passed (λ y. passes is_comma tag_turn (length y) y)) (Passed (λ y. passes is_comma tag_turn (length y) y)) z (valued (passes is_comma tag_turn (length z) z))
      (λ y a more. text e u x y h.0 m.0 h.1 m.1 h.2 m.2 more)
      (λ p f r st. stop e u x p f r h.0 m.0 h.1 m.1 h.2 m.2 st)
      (λ y q o. o) (at_more_tags z))))))
    where
      head : is_tags t.symbol ≡ true
      head = ap is_tags (sym is)

      classes : Classes (is_tags ∷ is_colon ∷ is_name ∷ [])
      classes = (tags_class, (colon_class, (name_class, tt)))

      row : i.tags ≡ false → (p : List Lexeme) (f : TextFault) (z : List Lexeme) → BeginsRow (is_tags ∷ is_colon ∷ is_name ∷ []) p → f ≡ expected z → ItemStop i p f z
      row e p f z begun fault = (at_tags i p e begun, fault, begins_row_quiet (is_tags ∷ is_colon ∷ is_name ∷ []) classes p begun)

      text : i.tags ≡ false → (u x y : List Lexeme) (c m : Lexeme) → u ≡ c ∷ [] → x ≡ m ∷ [] → is_colon c.symbol ≡ true → is_name m.symbol ≡ true → IsMoreTags y → ItemText i (t ∷ u ++ (x ++ y)) (record i { tags = true })
      text e u x y c m eu ex ic im more =
          subst (λ q. ItemText i (t ∷ q ++ (x ++ y)) (record i { tags = true })) (sym eu) (subst (λ q. ItemText i (t ∷ c ∷ q ++ y) (record i { tags = true })) (sym ex)
          (is_tags_item i t c m y e (head, (ic, (im, tt))) more, ends-append (t ∷ c ∷ m ∷ []) y (row_quiet (is_tags ∷ is_colon ∷ is_name ∷ []) classes (t ∷ c ∷ m ∷ []) (head, (ic, (im, tt)))) (tags_quiet y more)))

      stop : i.tags ≡ false → (u x p : List Lexeme) (f : TextFault) (r : List Lexeme) (c m : Lexeme) → u ≡ c ∷ [] → x ≡ m ∷ [] → is_colon c.symbol ≡ true → is_name m.symbol ≡ true → TagsStop tt p f r → ItemStop i (t ∷ u ++ (x ++ p)) f r
      stop e u x p f r c m eu ex ic im (w, q, ep, more, begun, fault) =
          subst (λ z. ItemStop i (t ∷ z ++ (x ++ p)) f r) (sym eu) (subst (λ z. ItemStop i (t ∷ c ∷ z ++ p) f r) (sym ex) (subst (λ z. ItemStop i (t ∷ c ∷ m ∷ z) f r) (sym ep) (
            in_tags i t c m w q e (head, (ic, (im, tt))) more begun,
            fault,
            ends-append (t ∷ c ∷ m ∷ []) (w ++ q) (row_quiet (is_tags ∷ is_colon ∷ is_name ∷ []) classes (t ∷ c ∷ m ∷ []) (head, (ic, (im, tt))))
                (ends-append w q (tags_quiet w more) (begins_row_quiet (is_comma ∷ is_name ∷ []) (comma_class, (name_class, tt)) q begun)),
          )))

  at_semantics_item : (i : Items) (w : List Lexeme) → s.Semantics ≡ front w → Good Fits (ItemText i) (ItemStop i) (By (read_semantics_item i)) w (read_semantics_item i w)
  unfolding read_semantics_item
  at_semantics_item i [] is = cc
  at_semantics_item i (t ∷ ts) is =
      once_each Fits (ItemText i) (ItemStop i) (is_some i.semantics) (λ x. mark is_colon (drop 1 x) >>= λ v. read_semantics v >>= λ r. Ok (record i { semantics = Some r.0 }, r.1)) (t ∷ ts) (no_item_yet i, refl, refl)
      (λ e. behind_token Fits (λ x b. ItemText i (t ∷ x) b) (ItemText i) (λ p f z. ItemStop i (t ∷ p) f z) (ItemStop i)
      (By (λ x. mark is_colon x >>= λ v. read_semantics v >>= λ r. Ok (record i { semantics = Some r.0 }, r.1))) (By (λ x. mark is_colon (drop 1 x) >>= λ v. read_semantics v >>= λ r. Ok (record i { semantics = Some r.0 }, r.1))) t ts (mark is_colon ts >>= λ v. read_semantics v >>= λ r. Ok (record i { semantics = Some r.0 }, r.1))
      (λ x b h. h) (λ p f z h. h) (λ x q h. h)
      (past-then Fits (IsOne is_colon) (StopsAt is_colon expected_by) (mark is_colon) (λ v. read_semantics v >>= λ r. Ok (record i { semantics = Some r.0 }, r.1)) (λ x b. ItemText i (t ∷ x) b) (λ p f z. ItemStop i (t ∷ p) f z) ts (mark is_colon ts) (λ v. read_semantics v >>= λ r. Ok (record i { semantics = Some r.0 }, r.1))
      (at_mark Fits is_colon colon_class ts)
      (λ p f z h. subst (λ q. ItemStop i (t ∷ q) f z) (sym h.0) (at_semantics i (t ∷ []) (none_of i.semantics e) (head, tt), h.1, begins_row_quiet (is_semantics ∷ is_colon ∷ []) classes (t ∷ []) (head, tt)))
      (λ u v eu h. map_value Fits SemanticsText (λ x b. ItemText i (t ∷ u ++ x) b) SemanticsStop (λ p f z. ItemStop i (t ∷ u ++ p) f z) read_semantics (λ x. record i { semantics = Some x }) v (read_semantics v)
      (λ x b m. subst (λ q. ItemText i (t ∷ q ++ x) (record i { semantics = Some b })) (sym h.1)
      (is_semantics_item i t h.0 x b (none_of i.semantics e) (head, (h.2, tt)) m.0, ends-append (t ∷ h.0 ∷ []) x (row_quiet (is_semantics ∷ is_colon ∷ []) classes (t ∷ h.0 ∷ []) (head, (h.2, tt))) m.1))
      (λ p f z m. subst (λ q. ItemStop i (t ∷ q ++ p) f z) (sym h.1)
      (in_semantics i t h.0 p (none_of i.semantics e) (head, (h.2, tt)) m.0, m.1, ends-append (t ∷ h.0 ∷ []) p (row_quiet (is_semantics ∷ is_colon ∷ []) classes (t ∷ h.0 ∷ []) (head, (h.2, tt))) m.2))
      (at_semantics_text v))))
    where
      head : is_semantics t.symbol ≡ true
      head = ap is_semantics (sym is)

      classes : Classes (is_semantics ∷ is_colon ∷ [])
      classes = (semantics_class, (colon_class, tt))

  at_target_item : (i : Items) (w : List Lexeme) → s.Target ≡ front w → Good Fits (ItemText i) (ItemStop i) (By (read_target_item i)) w (read_target_item i w)
  unfolding read_target_item
  at_target_item i [] is = cc
  at_target_item i (t ∷ ts) is =
      once_each Fits (ItemText i) (ItemStop i) (is_some i.target) (λ x. mark is_colon (drop 1 x) >>= λ v. read_kind v >>= λ r. Ok (record i { target = Some r.0 }, r.1)) (t ∷ ts) (no_item_yet i, refl, refl)
      (λ e. behind_token Fits (λ x b. ItemText i (t ∷ x) b) (ItemText i) (λ p f z. ItemStop i (t ∷ p) f z) (ItemStop i)
      (By (λ x. mark is_colon x >>= λ v. read_kind v >>= λ r. Ok (record i { target = Some r.0 }, r.1))) (By (λ x. mark is_colon (drop 1 x) >>= λ v. read_kind v >>= λ r. Ok (record i { target = Some r.0 }, r.1))) t ts (mark is_colon ts >>= λ v. read_kind v >>= λ r. Ok (record i { target = Some r.0 }, r.1))
      (λ x b h. h) (λ p f z h. h) (λ x q h. h)
      (past-then Fits (IsOne is_colon) (StopsAt is_colon expected_by) (mark is_colon) (λ v. read_kind v >>= λ r. Ok (record i { target = Some r.0 }, r.1)) (λ x b. ItemText i (t ∷ x) b) (λ p f z. ItemStop i (t ∷ p) f z) ts (mark is_colon ts) (λ v. read_kind v >>= λ r. Ok (record i { target = Some r.0 }, r.1))
      (at_mark Fits is_colon colon_class ts)
      (λ p f z h. subst (λ q. ItemStop i (t ∷ q) f z) (sym h.0) (stop e (t ∷ []) f z (head, tt) h.1))
      (λ u v eu h. map_value Fits KindText (λ x b. ItemText i (t ∷ u ++ x) b) AtOnce (λ p f z. ItemStop i (t ∷ u ++ p) f z) read_kind (λ x. record i { target = Some x }) v (read_kind v)
      (λ x b m. text e u x h.0 h.1 h.2 b m)
      (λ p f z m. subst (λ q. ItemStop i (t ∷ q ++ p) f z) (sym h.1) (subst (λ q. ItemStop i (t ∷ h.0 ∷ q) f z) (sym m.0) (stop e (t ∷ h.0 ∷ []) f z (head, (h.2, tt)) m.1)))
      (at_kind v))))
    where
      head : is_target t.symbol ≡ true
      head = ap is_target (sym is)

      classes : Classes (is_target ∷ is_colon ∷ is_kind ∷ [])
      classes = (target_class, (colon_class, (kind_class, tt)))

      stop : is_some i.target ≡ false → (p : List Lexeme) (f : TextFault) (z : List Lexeme) → BeginsRow (is_target ∷ is_colon ∷ is_kind ∷ []) p → f ≡ expected z → ItemStop i p f z
      stop e p f z begun fault = (in_target i p (none_of i.target e) begun, fault, begins_row_quiet (is_target ∷ is_colon ∷ is_kind ∷ []) classes p begun)

      text : is_some i.target ≡ false → (u x : List Lexeme) (c : Lexeme) → u ≡ c ∷ [] → is_colon c.symbol ≡ true → (b : PlacedTarget) → KindText x b → ItemText i (t ∷ u ++ x) (record i { target = Some b })
      text e u x c eu ic b (m, kind, ex, im, eb) =
          subst (λ (z : PlacedTarget). ItemText i (t ∷ u ++ x) (record i { target = Some z })) (sym eb)
          (subst (λ q. ItemText i (t ∷ q ++ x) (record i { target = Some (record { target = kind; place = m.from }) })) (sym eu)
          (subst (λ q. ItemText i (t ∷ c ∷ q) (record i { target = Some (record { target = kind; place = m.from }) })) (sym ex)
          (is_target_item i t c m kind (none_of i.target e) (head, (ic, tt)) im, row_quiet (is_target ∷ is_colon ∷ is_kind ∷ []) classes (t ∷ c ∷ m ∷ []) (head, (ic, (ap is_kind im, tt))))))

  item-go : (y : Symbol) (i : Items) (w : List Lexeme) → y ≡ front w → Good Fits (ItemText i) (ItemStop i) (By (item_by y i)) w (item_by y i w)
  item-go s.Title i w is = at_title i w is
  item-go s.Description i w is = at_description i w is
  item-go s.Semantics i w is = at_semantics_item i w is
  item-go s.Target i w is = at_target_item i w is
  item-go s.Tags i w is = at_tag_item i w is
  item-go y i w is = at_unexpected Fits (ItemText i) (ItemStop i) w (no_item_yet i, refl, refl)

  pub at_item : (i : Items) (w : List Lexeme) → Good Fits (ItemText i) (ItemStop i) (By (read_item i)) w (read_item i w)
  unfolding read_item
  at_item i w = choose Fits (ItemText i) (ItemStop i) (λ y. item_by y i) (front w) w (item_by (front w) i w) refl (item-go (front w) i w refl)

-- the word of a part and its brace
pub data HeadStop (is : Symbol → Bool) (part : Part) (p : List Lexeme) (f : TextFault) (v : List Lexeme) : Type 0 where
  at_word : p ≡ [] → f ≡ missing part v → HeadStop is part p f v
  at_brace : (a : Lexeme) → p ≡ a ∷ [] → is a.symbol ≡ true → f ≡ expected v → HeadStop is part p f v

abbrev pub HeadText : (Symbol → Bool) → Texts (Unit {0})
HeadText is u x = (a : Lexeme) × (b : Lexeme) × (u ≡ a ∷ b ∷ []) × IsRow (is ∷ is_open_brace ∷ []) (a ∷ b ∷ [])

module _ (Fits : TextFault → Type 0) (is : Symbol → Bool) (k : Class is) (part : Part) where
  at_part_word : (w : List Lexeme) → Good Fits (IsOne is) (StopsAt is (missing_by part)) (Passed (part_word is part)) w (valued (part_word is part w))
  unfolding part_word
  at_part_word w = at_token Fits is (missing_by part) k.no_end w

  pub at_head : (w : List Lexeme) → Good Fits (HeadText is) (HeadStop is part) (Passed (λ x. part_word is part x >>= mark is_open_brace)) w (valued (part_word is part w >>= mark is_open_brace))
  at_head w =
      past-past Fits (IsOne is) (StopsAt is (missing_by part)) (part_word is part) (mark is_open_brace) (HeadText is) (HeadStop is part) w (part_word is part w) (mark is_open_brace)
      (at_part_word w) (λ p f v h. at_word h.0 h.1)
      (λ u v e h. weaker Fits (IsOne is_open_brace) (λ x b. HeadText is (u ++ x) b) (StopsAt is_open_brace expected_by) (λ p f z. HeadStop is part (u ++ p) f z) (Passed (mark is_open_brace)) (Passed (mark is_open_brace)) v (valued (mark is_open_brace v))
      (λ x b m. (h.0, m.0, ap (λ q. u ++ q) m.1 ∙ ap (λ q. q ++ m.0 ∷ []) h.1, (h.2, (m.2, tt))))
      (λ p f z m. at_brace h.0 (ap (λ q. u ++ q) m.0 ∙ append-nil u ∙ h.1) h.2 m.1) (λ x q o. o) (at_mark Fits is_open_brace open_brace_class v))

-- the items up to the closing brace

pub close_is : (y : Symbol) → in_braces y ≡ false → y ≡ s.CloseBrace
close_is s.CloseBrace e = refl
close_is y e = cc

pub item_some : (i : Items) (w : List Lexeme) (j : Items) → IsItem i w j → 0 < length w
item_some i w j (is_title_item k [] e row) = absurd row
item_some i w j (is_title_item k (t ∷ ts) e row) = omega arith
item_some i w j (is_description_item k [] e row) = absurd row
item_some i w j (is_description_item k (t ∷ ts) e row) = omega arith
item_some i w j (is_semantics_item k a c v x e row y) = omega arith
item_some i w j (is_target_item k a c t x e row y) = omega arith
item_some i w j (is_tags_item k a c t v e row y) = omega arith

abbrev pub MissingItem : Part → Items → Type 0
MissingItem part.Semantics j = j.semantics ≡ None
MissingItem part.Target j = ((x : Semantics) × (j.semantics ≡ Some x)) × (j.target ≡ None)
MissingItem _ j = ⊥

abbrev ItemsLack : Items → Lacks
ItemsLack i part p v = (j : Items) × (c : Lexeme) × (r : List Lexeme) × IsItems i p j × (v ≡ c ∷ r) × (is_close_brace c.symbol ≡ true) × MissingItem part j

abbrev ItemsText : Items → Texts Heading
ItemsText i u h = (w : List Lexeme) × (c : Lexeme) × (j : Items) × (u ≡ w ++ c ∷ []) × IsItems i w j × (j.semantics ≡ Some h.semantics) × (j.target ≡ Some h.target) × (is_close_brace c.symbol ≡ true) × Quiet w

abbrev ItemsStop : ℕ → Items → Stops
ItemsStop n i = Stop (ItemsLack i) (λ m. BeginsItems i) n

items_carried : (n : ℕ) (i j : Items) (u : List Lexeme) → IsItem i u j → Carried (λ m. BeginsItems j) (λ m. BeginsItems i) n u
items_carried n i j u x m r le (in_items j' k w v xs b) = subst (BeginsItems i) (append_assoc u w v) (in_items i k (u ++ w) v (item_more i j' k u w x xs) b)

items_begun : (i : Items) → BeginsItems i []
items_begun i = in_items i i [] [] (no_item i) (no_item_yet i)

closes_heading : (i : Items) (c : Lexeme) (us : List Lexeme) → c.symbol ≡ s.CloseBrace → close_heading i (c ∷ us) ≡ heading_by i.semantics i.target (c ∷ us)
unfolding close_heading
closes_heading i c us is = ap (λ y. cond (in_braces y) (unexpected (c ∷ us)) (heading_by i.semantics i.target (c ∷ us))) is

closes_alike : (i : Items) (a : Option Semantics) (b : Option PlacedTarget) (c : Lexeme) (ts v : List Lexeme) → c.symbol ≡ s.CloseBrace → i.semantics ≡ a → i.target ≡ b → (f : TextFault) → ((x : List Lexeme) → heading_by a b x ≡ Err (f, x)) → Alike (c ∷ ts) v → close_heading i v ≡ Err (f, v)
closes_alike i a b c ts [] is ea eb f fails al = absurd al
closes_alike i a b c ts (u ∷ us) is ea eb f fails al =
    closes_heading i u us (ap (λ x. x.symbol) (sym al) ∙ is) ∙ ap (λ z. heading_by z i.target (u ∷ us)) ea ∙ ap (λ z. heading_by a z (u ∷ us)) eb ∙ fails (u ∷ us)

module _ (Fits : TextFault → Type 0) (n : ℕ) where
  items_closed : (i : Items) (w : List Lexeme) → in_braces (front w) ≡ false → Good Fits (ItemsText i) (ItemsStop n i) (By (close_heading i)) w (close_heading i w)
  items_closed i [] e = cc
  items_closed i (c ∷ ts) e =
      subst (Good Fits (ItemsText i) (ItemsStop n i) (By (close_heading i)) (c ∷ ts)) (sym (closes_heading i c ts is)) (go i.semantics i.target refl refl) where
        is : c.symbol ≡ s.CloseBrace
        is = close_is c.symbol e

        go : (a : Option Semantics) (b : Option PlacedTarget) → i.semantics ≡ a → i.target ≡ b → Good Fits (ItemsText i) (ItemsStop n i) (By (close_heading i)) (c ∷ ts) (heading_by a b (c ∷ ts))
        go None b ea eb = (
          [],
          refl,
          lacking part.Semantics (items_begun i) (ap (missing_by part.Semantics) (sym is)) (i, c, ts, no_item i, refl, ap is_close_brace is, ea),
          λ fits v al. closes_alike i None b c ts v is ea eb _ (λ x. refl) al,
        )
        go (Some a) None ea eb = (
          [],
          refl,
          lacking part.Target (items_begun i) (ap (missing_by part.Target) (sym is)) (i, c, ts, no_item i, refl, ap is_close_brace is, ((a, ea), eb)),
          λ fits v al. closes_alike i (Some a) None c ts v is ea eb _ (λ x. refl) al,
        )
        go (Some a) (Some b) ea eb = (
          c ∷ [],
          refl,
          ([], c, i, refl, no_item i, ea, eb, ap is_close_brace is, refl),
          λ v al. closes_heading i c v is ∙ ap (λ z. heading_by z i.target (c ∷ v)) ea ∙ ap (λ z. heading_by (Some a) z (c ∷ v)) eb,
        )

  items_more_text : (i : Items) (u : List Lexeme) (j : Items) (v : List Lexeme) (h : Heading) → ItemText i u j → ItemsText j v h → ItemsText i (u ++ v) h
  items_more_text i u j v h (x, quiet) (w, c, k, e, xs, es, et, ic, q) =
      (u ++ w, c, k, ap (λ z. u ++ z) e ∙ sym (append_assoc u w (c ∷ [])), item_more i j k u w x xs, es, et, ic, ends-append u w quiet q)

  items_more_stop : (i : Items) (u : List Lexeme) (j : Items) (p : List Lexeme) (f : TextFault) (v : List Lexeme) → ItemText i u j → ItemsStop n j p f v → ItemsStop n i (u ++ p) f v
  items_more_stop i u j p f v (x, quiet) stop =
      stop_behind (ItemsLack j) (ItemsLack i) (λ m. BeginsItems j) (λ m. BeginsItems i) n u p f v (items_carried n i j u x) (ends-append u p quiet)
      (λ part h. (h.0, h.1, h.2, item_more i j h.0 u p x h.3, h.4, h.5, h.6)) stop

  items_stuck : (i : Items) → in_braces s.End ≡ true → (e : Halt) × (read_item i [] ≡ Err e) × (close_heading i [] ≡ Err e)
  unfolding read_item close_heading
  items_stuck i go = ((expected [], []), refl, refl)

  items_stuck' : (i : Items) → in_braces s.End ≡ true → (h : Halt) → read_item i [] ≡ Err h → close_heading i [] ≡ Err h
  unfolding read_item close_heading
  items_stuck' i go h e = ap (λ r. Err (halt_of r)) e

  abbrev pub heading_run : List Lexeme → Read Heading
  heading_run w = run in_braces read_item close_heading (length w) no_items w

  at_items : (w : List Lexeme) → Good Fits (ItemsText no_items) (ItemsStop n no_items) (By heading_run) w (heading_run w)
  at_items w =
      weaker Fits (ItemsText no_items) (ItemsText no_items) (ItemsStop n no_items) (ItemsStop n no_items) (λ x q. (k : ℕ) → length x ≤ k → run in_braces read_item close_heading k no_items x ≡ q) (By heading_run) w (heading_run w)
      (λ u a h. h) (λ p f v h. h) (λ x q h. h (length x) (omega arith))
      (loop Fits in_braces read_item read_item close_heading close_heading ItemText ItemStop ItemsText (ItemsStop n)
      (λ i w go. at_item Fits i w) items_closed (λ i p f v h. not_expected (in_items i i [] p (no_item i) h.0) h.1 h.2)
      items_more_text items_more_stop (λ i u j h. item_some i u j h.0) items_stuck items_stuck' (length w) no_items w (omega arith))

  abbrev pub HeadingTextOf : Texts Heading
  HeadingTextOf u h = IsHeading u h × Quiet u

  abbrev pub HeadingStop : Stops
  HeadingStop = Stop LacksInHeading (λ m. BeginsHeading) n

  head_stop : (p : List Lexeme) (f : TextFault) (v : List Lexeme) → HeadStop is_info part.Info p f v → HeadingStop p f v
  head_stop p f v (at_word e fault) = subst (λ q. HeadingStop q f v) (sym e) (lacking part.Info (at_info [] tt) fault (no_info v))
  head_stop p f v (at_brace a e is fault) = subst (λ q. HeadingStop q f v) (sym e) (not_expected (at_info (a ∷ []) (is, tt)) fault (begins_row_quiet (is_info ∷ is_open_brace ∷ []) (info_class, (open_brace_class, tt)) (a ∷ []) (is, tt)))

  lack_in_heading : (a b : Lexeme) → IsRow (is_info ∷ is_open_brace ∷ []) (a ∷ b ∷ []) → (p v : List Lexeme) (which : Part) → ItemsLack no_items which p v → LacksInHeading which (a ∷ b ∷ p) v
  lack_in_heading a b row p v part.Semantics (j, c, r, xs, ev, ic, none) = subst (LacksInHeading part.Semantics (a ∷ b ∷ p)) (sym ev) (no_semantics a b p j c r row xs ic none)
  lack_in_heading a b row p v part.Target (j, c, r, xs, ev, ic, (some, none)) = subst (LacksInHeading part.Target (a ∷ b ∷ p)) (sym ev) (no_target a b p j c r some.0 row xs ic some.1 none)
  lack_in_heading a b row p v which (j, c, r, xs, ev, ic, none) = absurd none

  pub at_heading : (w : List Lexeme) → Good Fits HeadingTextOf HeadingStop (By read_heading) w (read_heading w)
  unfolding read_heading read_items
  at_heading w =
      subst (Good Fits HeadingTextOf HeadingStop (By read_heading) w) (sym (same w))
      (weaker Fits HeadingTextOf HeadingTextOf HeadingStop HeadingStop (By (λ x. part_word is_info part.Info x >>= mark is_open_brace >>= heading_run)) (By read_heading) w (part_word is_info part.Info w >>= mark is_open_brace >>= heading_run)
      (λ u a h. h) (λ p f v h. h) (λ x q h. same x ∙ h)
      (past-then Fits (HeadText is_info) (HeadStop is_info part.Info) (λ x. part_word is_info part.Info x >>= mark is_open_brace) heading_run HeadingTextOf HeadingStop w (part_word is_info part.Info w >>= mark is_open_brace) heading_run
      (at_head Fits is_info info_class part.Info w) head_stop
      (λ u v e h. weaker Fits (ItemsText no_items) (λ x b. HeadingTextOf (u ++ x) b) (ItemsStop n no_items) (λ p f z. HeadingStop (u ++ p) f z) (By heading_run) (By heading_run) v (heading_run v)
      (λ x b m. text u h.0 h.1 h.2 h.3 x b m) (λ p f z m. stop u h.0 h.1 h.2 h.3 p f z m) (λ x q o. o) (at_items v))))
    where
      same : (x : List Lexeme) → read_heading x ≡ (part_word is_info part.Info x >>= mark is_open_brace >>= heading_run)
      same x = bind_assoc (part_word is_info part.Info x >>= mark is_open_brace) read_items (λ r. close_heading r.0 r.1)

      text : (u : List Lexeme) (a b : Lexeme) → u ≡ a ∷ b ∷ [] → IsRow (is_info ∷ is_open_brace ∷ []) (a ∷ b ∷ []) → (x : List Lexeme) (h : Heading) → ItemsText no_items x h → HeadingTextOf (u ++ x) h
      text u a b eu row x h (w1, c, j, e, xs, es, et, ic, q) =
          subst (λ z. HeadingTextOf (z ++ x) h) (sym eu) (subst (λ z. HeadingTextOf (a ∷ b ∷ z) h) (sym e) (
            is_heading a b c w1 j h.semantics h.target row xs es et ic,
            ends-append (a ∷ b ∷ []) (w1 ++ c ∷ []) (row_quiet (is_info ∷ is_open_brace ∷ []) (info_class, (open_brace_class, tt)) (a ∷ b ∷ []) row)
                (ends-append w1 (c ∷ []) q (row_quiet (is_close_brace ∷ []) (close_brace_class, tt) (c ∷ []) (ic, tt))),
          ))

      stop : (u : List Lexeme) (a b : Lexeme) → u ≡ a ∷ b ∷ [] → IsRow (is_info ∷ is_open_brace ∷ []) (a ∷ b ∷ []) → (p : List Lexeme) (f : TextFault) (z : List Lexeme) → ItemsStop n no_items p f z → HeadingStop (u ++ p) f z
      stop u a b eu row p f z st =
          subst (λ q. HeadingStop (q ++ p) f z) (sym eu)
          (stop_behind (ItemsLack no_items) LacksInHeading (λ m. BeginsItems no_items) (λ m. BeginsHeading) n (a ∷ b ∷ []) p f z
          (λ m r le b'. in_info a b r row b')
          (ends-append (a ∷ b ∷ []) p (row_quiet (is_info ∷ is_open_brace ∷ []) (info_class, (open_brace_class, tt)) (a ∷ b ∷ []) row))
          (λ which h. lack_in_heading a b row p z which h) st)
