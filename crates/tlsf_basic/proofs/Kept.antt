-- What holds of all tokens holds of those behind what is read, and of those at which reading stops.
use Rattle.std.proofs.Common.{◌≡◌, ℕ, zero, suc, ◌<◌, ◌≤◌, Bool, true, false, not, cond, List, [], ◌∷◌, length, drop, Result, Ok, Err, Option, Some, None, sym, refl, ap, ◌∙◌, subst, arith}
use Rattle.std.specs.Prelude.{All, is_some, IfErr}
use Rattle.std.proofs.lemmas.List.Elements.{All-weaker, All-nil, All-cons, All-head, All-tail, All-drop, All-push}
use Rattle.ltl_form.specs.declared.formulas.Ltl.{Ltl}
use Rattle.ltl_form.specs.declared.formulas.Ltl.TheVariants as ltl
use Rattle.tlsf_basic.specs.declared.faults.Part.{Part}
use Rattle.tlsf_basic.specs.declared.faults.Part.TheVariants as part
use Rattle.tlsf_basic.specs.declared.symbols.Unary.{Unary}
use Rattle.tlsf_basic.specs.declared.symbols.Lone.{Lone}
use Rattle.tlsf_basic.specs.declared.symbols.Section.{Section}
use Rattle.tlsf_basic.specs.declared.symbols.Section.TheVariants as section
use Rattle.tlsf_basic.specs.declared.symbols.Symbol.{Symbol}
use Rattle.tlsf_basic.specs.declared.symbols.Symbol.TheVariants as s
use Rattle.tlsf_basic.specs.declared.symbols.Lexeme.{Lexeme}
use Rattle.tlsf_basic.specs.declared.headings.Semantics.{Semantics}
use Rattle.tlsf_basic.specs.declared.headings.PlacedTarget.{PlacedTarget}
use Rattle.tlsf_basic.specs.declared.headings.Items.{Items}
use Rattle.tlsf_basic.specs.declared.headings.Heading.{Heading}
use Rattle.tlsf_basic.specs.declared.mains.Sections.{Sections}
use Rattle.tlsf_basic.specs.declared.mains.Parts.{Parts}
use Rattle.tlsf_basic.specs.Reads.{Halt, Read, Past, ◌>>=◌, front, unexpected, turns, passes}
use Rattle.tlsf_basic.specs.Marks.{mark, closing, part_word, end, is_and, is_or, is_close, is_colon, is_text, is_comma, is_open_brace, is_close_brace, is_semicolon, is_declared, is_info, is_main, in_braces, is_strict, is_name}
use Rattle.tlsf_basic.specs.Formulas.{Deeper, atom_by, read_atom, read_prefixed, read_parens, unary_by, read_unary, one_more, read_conjuncts, all_by, read_all_from, read_all, read_disjuncts, any_by, read_any_from, read_implied, arrow_by, read_arrow_from, read_arrow, read_second, formula_by, read_formula, nested}
use Rattle.tlsf_basic.specs.Values.{with_unary, with_lone, no_items, added, no_sections, no_parts}
use Rattle.tlsf_basic.specs.Headings.{read_string, kind_by, read_kind, strict_by, semantics_by, read_semantics, read_tags, read_title, read_description, read_tag_item, read_semantics_item, read_target_item, item_by, read_item, read_items, heading_by, close_heading, read_heading}
use Rattle.tlsf_basic.specs.declared.faults.TextFault.{TextFault}
use Rattle.tlsf_basic.specs.Words.{SpanWithin}
use Rattle.tlsf_basic.specs.Specification.{place_of, IsPlaced}
use Rattle.tlsf_basic.specs.declared.faults.TextError.{TextError}
use Rattle.tlsf_basic.specs.declared.faults.TextError.TheVariants.{Fault, Memory}
use Rattle.tlsf_basic.specs.Mains.{name_turn, read_names, read_declared, read_entry, read_entries, read_inputs, read_outputs, read_section, part_by, read_part, read_parts, close_main, read_main, read_text}

-- a fact of tokens, one of places and one of formulas, where reading gives the others from the first
pub record Carries (P : Lexeme → Type 0) (T : ℕ → Type 0) (Q : Ltl → Type 0) : Type 0 where
  pub at_place : (t : Lexeme) → P t → T t.from
  pub at_true : Q ltl.True
  pub at_false : Q ltl.False
  pub at_signal : (t : Lexeme) (n : ℕ) → P t → t.symbol ≡ s.Signal n → Q (ltl.Signal n)
  pub at_unknown : (t : Lexeme) → P t → t.symbol ≡ s.Unknown → Q (ltl.Signal 4294967295)
  pub at_unary : (op : Unary) (f : Ltl) → Q f → Q (with_unary op f)
  pub at_lone : (op : Lone) (f g : Ltl) → Q f → Q g → Q (with_lone op f g)
  pub at_implies : (f g : Ltl) → Q f → Q g → Q (ltl.Implies f g)
  pub at_all : (fs : List Ltl) → All Q fs → Q (ltl.All fs)
  pub at_any : (fs : List Ltl) → All Q fs → Q (ltl.Any fs)

-- the fact of formulas holds of each entry
pub record Entries (Q : Ltl → Type 0) (all : Sections) : Type 0 where
  pub initially : All Q all.initially
  pub preset : All Q all.preset
  pub require : All Q all.require
  pub assert : All Q all.assert
  pub assume : All Q all.assume
  pub guarantee : All Q all.guarantee

module _ (P : Lexeme → Type 0) (T : ℕ → Type 0) (Q : Ltl → Type 0) (carries : Carries P T Q) where
  -- what is read has a fact, and the tokens have theirs
  abbrev pub Keeps : {A : Type 0} → (A → Type 0) → Read A → Type 0
  Keeps R (Ok r) = R r.0 × All P r.1
  Keeps R (Err e) = All P e.1

  abbrev pub KeepsPast : Past → Type 0
  KeepsPast (Ok w) = All P w
  KeepsPast (Err e) = All P e.1

  bind : {A B : Type 0} (R : A → Type 0) (S : B → Type 0) (r : Read A) (f : A × List Lexeme → Read B) → Keeps R r → ((x : A × List Lexeme) → R x.0 → All P x.1 → Keeps S (f x)) → Keeps S (r >>= f)
  bind R S (Ok x) f k g = g x k.0 k.1
  bind R S (Err e) f k g = k

  bind-past : {B : Type 0} (S : B → Type 0) (r : Past) (f : List Lexeme → Read B) → KeepsPast r → ((w : List Lexeme) → All P w → Keeps S (f w)) → Keeps S (r >>= f)
  bind-past S (Ok w) f k g = g w k
  bind-past S (Err e) f k g = k

  past-past : (r : Past) (f : List Lexeme → Past) → KeepsPast r → ((w : List Lexeme) → All P w → KeepsPast (f w)) → KeepsPast (r >>= f)
  past-past (Ok w) f k g = g w k
  past-past (Err e) f k g = k

  behind : (w : List Lexeme) → All P w → All P (drop 1 w)
  behind w all = All-drop P 1 w all

  split-past : (b : Bool) (x y : Past) → KeepsPast x → KeepsPast y → KeepsPast (cond b x y)
  split-past true x y kx ky = kx
  split-past false x y kx ky = ky

  split : {A : Type 0} (R : A → Type 0) (b : Bool) (x y : Read A) → Keeps R x → Keeps R y → Keeps R (cond b x y)
  split R true x y kx ky = kx
  split R false x y kx ky = ky

  at_mark : (is : Symbol → Bool) (w : List Lexeme) → All P w → KeepsPast (mark is w)
  unfolding mark
  at_mark is w all = split-past (is (front w)) (Ok (drop 1 w)) (unexpected w) (behind w all) all

  at_closing : (is : Symbol → Bool) (w : List Lexeme) → All P w → KeepsPast (closing is w)
  unfolding closing
  at_closing is w all = split-past (is (front w)) (Ok (drop 1 w)) _ (behind w all) all

  at_part : (is : Symbol → Bool) (part : Part) (w : List Lexeme) → All P w → KeepsPast (part_word is part w)
  unfolding part_word
  at_part is part w all = split-past (is (front w)) (Ok (drop 1 w)) _ (behind w all) all

  at_end : (w : List Lexeme) → All P w → KeepsPast (end w)
  unfolding end
  at_end [] all = all
  at_end (t ∷ w) all = all

  at_turns : {S : Type 0} (R : S → Type 0) (goes : Symbol → Bool) (turn : S → List Lexeme → Read S) → ((state : S) (w : List Lexeme) → R state → All P w → Keeps R (turn state w)) → (n : ℕ) (state : S) (w : List Lexeme) → R state → All P w → Keeps R (turns goes turn n state w)
  unfolding turns
  at_turns R goes turn one zero state w r all = (r, all)
  at_turns R goes turn one (suc n) state w r all =
      split _ (goes (front w)) (turn state w >>= λ x. turns goes turn n x.0 x.1) (Ok (state, w))
      (bind _ _ (turn state w) (λ x. turns goes turn n x.0 x.1) (one state w r all) (λ x rx ax. at_turns R goes turn one n x.0 x.1 rx ax))
      (r, all)

  at_passes : (goes : Symbol → Bool) (turn : List Lexeme → Past) → ((w : List Lexeme) → All P w → KeepsPast (turn w)) → (n : ℕ) (w : List Lexeme) → All P w → KeepsPast (passes goes turn n w)
  unfolding passes
  at_passes goes turn one zero w all = all
  at_passes goes turn one (suc n) w all =
      split-past (goes (front w)) (turn w >>= passes goes turn n) (Ok w)
      (past-past (turn w) (passes goes turn n) (one w all) (λ v av. at_passes goes turn one n v av))
      all

  -- formulas

  record KeepsDeeper (d : Deeper) : Type 0 where
    unary : (w : List Lexeme) → All P w → Keeps Q (d.unary w)
    formula : (w : List Lexeme) → All P w → Keeps Q (d.formula w)
    arrow : (w : List Lexeme) → All P w → Keeps Q (d.arrow w)

  atom-go : (symbol : Symbol) (t : Lexeme) (ts : List Lexeme) → t.symbol ≡ symbol → All P (t ∷ ts) → Keeps Q (atom_by symbol (t ∷ ts))
  atom-go s.True t ts is all = (carries.at_true, behind (t ∷ ts) all)
  atom-go s.False t ts is all = (carries.at_false, behind (t ∷ ts) all)
  atom-go (s.Signal n) t ts is all = (carries.at_signal t n (All-head P t ts all) is, behind (t ∷ ts) all)
  atom-go s.Unknown t ts is all = (carries.at_unknown t (All-head P t ts all) is, behind (t ∷ ts) all)
  atom-go symbol t ts is all = all

  at_atom : (w : List Lexeme) → All P w → Keeps Q (read_atom w)
  unfolding read_atom
  at_atom [] all = all
  at_atom (t ∷ ts) all = atom-go t.symbol t ts refl all

  module _ (d : Deeper) (k : KeepsDeeper d) where
    at_prefixed : (op : Unary) (w : List Lexeme) → All P w → Keeps Q (read_prefixed d op w)
    unfolding read_prefixed
    at_prefixed op w all = bind _ _ (d.unary w) _ (k.unary w all) (λ x qx ax. (carries.at_unary op x.0 qx, ax))

    at_parens : (w : List Lexeme) → All P w → Keeps Q (read_parens d w)
    unfolding read_parens
    at_parens w all =
        bind _ _ (d.formula w) _ (k.formula w all)
        (λ x qx ax. bind-past _ (closing is_close x.1) _ (at_closing is_close x.1 ax) (λ v av. (qx, av)))

    unary-go : (symbol : Symbol) (w : List Lexeme) → All P w → Keeps Q (unary_by symbol d w)
    unary-go (s.Unary op) w all = at_prefixed op w all
    unary-go s.Open w all = at_parens w all
    unary-go symbol w all = at_atom w all

    at_unary : (w : List Lexeme) → All P w → Keeps Q (read_unary d w)
    unfolding read_unary
    at_unary w all = unary-go (front w) w all

    at_one_more : (read : List Lexeme → Read Ltl) → ((w : List Lexeme) → All P w → Keeps Q (read w)) → (fs : List Ltl) (w : List Lexeme) → All Q fs → All P w → Keeps (All Q) (one_more read fs w)
    at_one_more read one fs w qs all =
        bind _ _ (read (drop 1 w)) _ (one (drop 1 w) (behind w all)) (λ x qx ax. (All-push Q fs x.0 qs qx, ax))

    one_alone : (f : Ltl) → Q f → All Q (f ∷ [])
    one_alone f q = All-cons Q f [] q (All-nil Q)

    at_conjuncts : (f : Ltl) (w : List Lexeme) → Q f → All P w → Keeps Q (read_conjuncts d f w)
    unfolding read_conjuncts
    at_conjuncts f w q all =
        bind _ _ _ _ (at_turns (All Q) is_and (one_more (read_unary d)) (at_one_more (read_unary d) at_unary) (length w) (f ∷ []) w (one_alone f q) all)
        (λ x qx ax. (carries.at_all x.0 qx, ax))

    all-go : (symbol : Symbol) (f : Ltl) (w : List Lexeme) → Q f → All P w → Keeps Q (all_by symbol d f w)
    all-go s.And f w q all = at_conjuncts f w q all
    all-go symbol f w q all = (q, all)

    at_all_from : (f : Ltl) (w : List Lexeme) → Q f → All P w → Keeps Q (read_all_from d f w)
    unfolding read_all_from
    at_all_from f w q all = all-go (front w) f w q all

    at_all : (w : List Lexeme) → All P w → Keeps Q (read_all d w)
    unfolding read_all
    at_all w all = bind _ _ (read_unary d w) _ (at_unary w all) (λ x qx ax. at_all_from x.0 x.1 qx ax)

    at_disjuncts : (f : Ltl) (w : List Lexeme) → Q f → All P w → Keeps Q (read_disjuncts d f w)
    unfolding read_disjuncts
    at_disjuncts f w q all =
        bind _ _ _ _ (at_turns (All Q) is_or (one_more (read_all d)) (at_one_more (read_all d) at_all) (length w) (f ∷ []) w (one_alone f q) all)
        (λ x qx ax. (carries.at_any x.0 qx, ax))

    any-go : (symbol : Symbol) (f : Ltl) (w : List Lexeme) → Q f → All P w → Keeps Q (any_by symbol d f w)
    any-go s.Or f w q all = at_disjuncts f w q all
    any-go symbol f w q all = (q, all)

    at_any_from : (f : Ltl) (w : List Lexeme) → Q f → All P w → Keeps Q (read_any_from d f w)
    unfolding read_any_from
    at_any_from f w q all =
        bind _ _ (read_all_from d f w) _ (at_all_from f w q all) (λ x qx ax. any-go (front x.1) x.0 x.1 qx ax)

    at_implied : (f : Ltl) (w : List Lexeme) → Q f → All P w → Keeps Q (read_implied d f w)
    unfolding read_implied
    at_implied f w q all = bind _ _ (d.arrow w) _ (k.arrow w all) (λ x qx ax. (carries.at_implies f x.0 q qx, ax))

    arrow-go : (symbol : Symbol) (f : Ltl) (w : List Lexeme) → Q f → All P w → Keeps Q (arrow_by symbol d f w)
    arrow-go s.Arrow f w q all = at_implied f w q all
    arrow-go symbol f w q all = (q, all)

    at_arrow_from : (f : Ltl) (w : List Lexeme) → Q f → All P w → Keeps Q (read_arrow_from d f w)
    unfolding read_arrow_from
    at_arrow_from f w q all =
        bind _ _ (read_any_from d f w) _ (at_any_from f w q all) (λ x qx ax. arrow-go (front x.1) x.0 x.1 qx ax)

    at_arrow : (w : List Lexeme) → All P w → Keeps Q (read_arrow d w)
    unfolding read_arrow
    at_arrow w all = bind _ _ (read_unary d w) _ (at_unary w all) (λ x qx ax. at_arrow_from x.0 x.1 qx ax)

    at_second : (op : Lone) (f : Ltl) (w : List Lexeme) → Q f → All P w → Keeps Q (read_second d op f w)
    unfolding read_second
    at_second op f w q all =
        bind _ _ (read_unary d (drop 1 w)) _ (at_unary (drop 1 w) (behind w all)) (λ x qx ax. (carries.at_lone op f x.0 q qx, ax))

    formula-go : (symbol : Symbol) (f : Ltl) (w : List Lexeme) → Q f → All P w → Keeps Q (formula_by symbol d f w)
    formula-go (s.Lone op) f w q all = at_second op f w q all
    formula-go symbol f w q all = at_arrow_from f w q all

    at_formula : (w : List Lexeme) → All P w → Keeps Q (read_formula d w)
    unfolding read_formula
    at_formula w all = bind _ _ (read_unary d w) _ (at_unary w all) (λ x qx ax. formula-go (front x.1) x.0 x.1 qx ax)

  at_nested : (n : ℕ) → KeepsDeeper (nested n)
  unfolding nested
  at_nested zero = record { unary = λ w all. all; formula = λ w all. all; arrow = λ w all. all }
  at_nested (suc n) = record {
    unary = λ w all. at_unary (nested n) (at_nested n) (drop 1 w) (behind w all);
    formula = λ w all. at_formula (nested n) (at_nested n) (drop 1 w) (behind w all);
    arrow = λ w all. at_arrow (nested n) (at_nested n) (drop 1 w) (behind w all);
  }

  -- the first part

  abbrev Any : {A : Type 0} → A → Type 0
  Any x = Unit {0}

  at_string : (w : List Lexeme) → All P w → KeepsPast (read_string w)
  unfolding read_string
  at_string w all = past-past (mark is_colon w) (mark is_text) (at_mark is_colon w all) (λ v av. at_mark is_text v av)

  abbrev KindKeeps : PlacedTarget → Type 0
  KindKeeps k = T k.place

  abbrev TargetKeeps : Option PlacedTarget → Type 0
  TargetKeeps None = Unit {0}
  TargetKeeps (Some k) = T k.place

  abbrev ItemsKeep : Items → Type 0
  ItemsKeep items = TargetKeeps items.target

  abbrev HeadingKeeps : Heading → Type 0
  HeadingKeeps heading = T heading.target.place

  kind-go : (symbol : Symbol) (t : Lexeme) (ts : List Lexeme) → All P (t ∷ ts) → Keeps KindKeeps (kind_by symbol t ts)
  kind-go (s.Kind kind) t ts all = (carries.at_place t (All-head P t ts all), All-tail P t ts all)
  kind-go symbol t ts all = all

  at_kind : (w : List Lexeme) → All P w → Keeps KindKeeps (read_kind w)
  unfolding read_kind
  at_kind [] all = all
  at_kind (t ∷ ts) all = kind-go t.symbol t ts all

  strict-go : (symbol : Symbol) (kind : _) (w : List Lexeme) → All P w → Keeps Any (strict_by symbol kind w)
  strict-go s.Comma kind w all = bind-past _ (mark is_strict (drop 1 w)) _ (at_mark is_strict (drop 1 w) (behind w all)) (λ v av. (tt, av))
  strict-go symbol kind w all = (tt, all)

  semantics-go : (symbol : Symbol) (w : List Lexeme) → All P w → Keeps Any (semantics_by symbol w)
  semantics-go s.Strict w all =
      bind-past _ (mark is_comma (drop 1 w)) _ (at_mark is_comma (drop 1 w) (behind w all))
      (λ v av. bind _ _ (read_kind v) _ (at_kind v av) (λ x _ ax. (tt, ax)))
  semantics-go symbol w all = bind _ _ (read_kind w) _ (at_kind w all) (λ x _ ax. strict-go (front x.1) x.0.target x.1 ax)

  at_semantics : (w : List Lexeme) → All P w → Keeps Any (read_semantics w)
  unfolding read_semantics
  at_semantics w all = semantics-go (front w) w all

  at_tags : (w : List Lexeme) → All P w → KeepsPast (read_tags w)
  unfolding read_tags
  at_tags w all =
      past-past (mark is_name w) _ (at_mark is_name w all)
      (λ v av. at_passes is_comma (λ u. mark is_name (drop 1 u)) (λ u au. at_mark is_name (drop 1 u) (behind u au)) (length v) v av)

  at_title : (items : Items) (w : List Lexeme) → ItemsKeep items → All P w → Keeps ItemsKeep (read_title items w)
  unfolding read_title
  at_title items w e all =
      split _ items.title (unexpected w) _ all (bind-past _ (read_string (drop 1 w)) _ (at_string (drop 1 w) (behind w all)) (λ v av. (e, av)))

  at_description : (items : Items) (w : List Lexeme) → ItemsKeep items → All P w → Keeps ItemsKeep (read_description items w)
  unfolding read_description
  at_description items w e all =
      split _ items.description (unexpected w) _ all (bind-past _ (read_string (drop 1 w)) _ (at_string (drop 1 w) (behind w all)) (λ v av. (e, av)))

  at_tag_item : (items : Items) (w : List Lexeme) → ItemsKeep items → All P w → Keeps ItemsKeep (read_tag_item items w)
  unfolding read_tag_item
  at_tag_item items w e all =
      split _ items.tags (unexpected w) _ all
      (bind-past _ (mark is_colon (drop 1 w)) _ (at_mark is_colon (drop 1 w) (behind w all))
      (λ v av. bind-past _ (read_tags v) _ (at_tags v av) (λ x ax. (e, ax))))

  at_semantics_item : (items : Items) (w : List Lexeme) → ItemsKeep items → All P w → Keeps ItemsKeep (read_semantics_item items w)
  unfolding read_semantics_item
  at_semantics_item items w e all =
      split _ (is_some items.semantics) (unexpected w) _ all
      (bind-past _ (mark is_colon (drop 1 w)) _ (at_mark is_colon (drop 1 w) (behind w all))
      (λ v av. bind _ _ (read_semantics v) _ (at_semantics v av) (λ x _ ax. (e, ax))))

  at_target_item : (items : Items) (w : List Lexeme) → ItemsKeep items → All P w → Keeps ItemsKeep (read_target_item items w)
  unfolding read_target_item
  at_target_item items w e all =
      split _ (is_some items.target) (unexpected w) _ all
      (bind-past _ (mark is_colon (drop 1 w)) _ (at_mark is_colon (drop 1 w) (behind w all))
      (λ v av. bind _ _ (read_kind v) _ (at_kind v av) (λ x tx ax. (tx, ax))))

  item-go : (symbol : Symbol) (items : Items) (w : List Lexeme) → ItemsKeep items → All P w → Keeps ItemsKeep (item_by symbol items w)
  item-go s.Title items w e all = at_title items w e all
  item-go s.Description items w e all = at_description items w e all
  item-go s.Semantics items w e all = at_semantics_item items w e all
  item-go s.Target items w e all = at_target_item items w e all
  item-go s.Tags items w e all = at_tag_item items w e all
  item-go symbol items w e all = all

  at_item : (items : Items) (w : List Lexeme) → ItemsKeep items → All P w → Keeps ItemsKeep (read_item items w)
  unfolding read_item
  at_item items w e all = item-go (front w) items w e all

  at_items : (w : List Lexeme) → All P w → Keeps ItemsKeep (read_items w)
  unfolding read_items
  at_items w all = at_turns ItemsKeep in_braces read_item at_item (length w) no_items w tt all

  heading-go : (semantics : Option Semantics) (target : Option PlacedTarget) (w : List Lexeme) → TargetKeeps target → All P w → Keeps HeadingKeeps (heading_by semantics target w)
  heading-go None target w e all = all
  heading-go (Some semantics) None w e all = all
  heading-go (Some semantics) (Some target) w e all = (e, behind w all)

  at_close_heading : (items : Items) (w : List Lexeme) → ItemsKeep items → All P w → Keeps HeadingKeeps (close_heading items w)
  unfolding close_heading
  at_close_heading items w e all =
      split _ (in_braces (front w)) (unexpected w) _ all (heading-go items.semantics items.target w e all)

  at_heading : (w : List Lexeme) → All P w → Keeps HeadingKeeps (read_heading w)
  unfolding read_heading
  at_heading w all =
      bind _ _ (part_word is_info part.Info w >>= mark is_open_brace >>= read_items) _
      (bind-past _ (part_word is_info part.Info w >>= mark is_open_brace) read_items
      (past-past (part_word is_info part.Info w) (mark is_open_brace) (at_part is_info part.Info w all) (λ v av. at_mark is_open_brace v av))
      at_items)
      (λ x e ax. at_close_heading x.0 x.1 e ax)

  -- the second part

  added-keeps : (kind : Section) (f : Ltl) (all : Sections) → Q f → Entries Q all → Entries Q (added kind f all)
  added-keeps section.Initially f all q e = record { initially = All-push Q all.initially f e.initially q; preset = e.preset; require = e.require; assert = e.assert; assume = e.assume; guarantee = e.guarantee }
  added-keeps section.Preset f all q e = record { initially = e.initially; preset = All-push Q all.preset f e.preset q; require = e.require; assert = e.assert; assume = e.assume; guarantee = e.guarantee }
  added-keeps section.Require f all q e = record { initially = e.initially; preset = e.preset; require = All-push Q all.require f e.require q; assert = e.assert; assume = e.assume; guarantee = e.guarantee }
  added-keeps section.Assert f all q e = record { initially = e.initially; preset = e.preset; require = e.require; assert = All-push Q all.assert f e.assert q; assume = e.assume; guarantee = e.guarantee }
  added-keeps section.Assume f all q e = record { initially = e.initially; preset = e.preset; require = e.require; assert = e.assert; assume = All-push Q all.assume f e.assume q; guarantee = e.guarantee }
  added-keeps section.Guarantee f all q e = record { initially = e.initially; preset = e.preset; require = e.require; assert = e.assert; assume = e.assume; guarantee = All-push Q all.guarantee f e.guarantee q }

  at_name : (w : List Lexeme) → All P w → KeepsPast (name_turn w)
  at_name w all = past-past (mark is_declared w) (mark is_semicolon) (at_mark is_declared w all) (λ v av. at_mark is_semicolon v av)

  at_names : (w : List Lexeme) → All P w → KeepsPast (read_names w)
  unfolding read_names
  at_names w all = at_passes in_braces name_turn at_name (length w) w all

  at_declared : (w : List Lexeme) → All P w → KeepsPast (read_declared w)
  unfolding read_declared
  at_declared w all =
      past-past (mark is_open_brace w >>= read_names) (mark is_close_brace)
      (past-past (mark is_open_brace w) read_names (at_mark is_open_brace w all) at_names)
      (λ v av. at_mark is_close_brace v av)

  at_entry : (kind : Section) (all : Sections) (w : List Lexeme) → Entries Q all → All P w → Keeps (Entries Q) (read_entry 256 kind all w)
  unfolding read_entry
  at_entry kind all w e aw =
      bind _ _ (read_formula (nested 256) w) _ (at_formula (nested 256) (at_nested 256) w aw)
      (λ x qx ax. bind-past _ (closing is_semicolon x.1) _ (at_closing is_semicolon x.1 ax) (λ v av. (added-keeps kind x.0 all qx e, av)))

  at_entries : (kind : Section) (all : Sections) (w : List Lexeme) → Entries Q all → All P w → Keeps (Entries Q) (read_entries 256 kind all w)
  unfolding read_entries
  at_entries kind all w e aw = at_turns (Entries Q) in_braces (read_entry 256 kind) (at_entry kind) (length w) all w e aw

  abbrev PartsKeep : Parts → Type 0
  PartsKeep parts = Entries Q parts.sections

  at_inputs : (parts : Parts) (w : List Lexeme) → PartsKeep parts → All P w → Keeps PartsKeep (read_inputs parts w)
  unfolding read_inputs
  at_inputs parts w e all =
      split _ parts.inputs (unexpected w) _ all (bind-past _ (read_declared (drop 1 w)) _ (at_declared (drop 1 w) (behind w all)) (λ v av. (e, av)))

  at_outputs : (parts : Parts) (w : List Lexeme) → PartsKeep parts → All P w → Keeps PartsKeep (read_outputs parts w)
  unfolding read_outputs
  at_outputs parts w e all =
      split _ parts.outputs (unexpected w) _ all (bind-past _ (read_declared (drop 1 w)) _ (at_declared (drop 1 w) (behind w all)) (λ v av. (e, av)))

  at_section : (kind : Section) (parts : Parts) (w : List Lexeme) → PartsKeep parts → All P w → Keeps PartsKeep (read_section 256 kind parts w)
  unfolding read_section
  at_section kind parts w e all =
      bind-past _ (mark is_open_brace (drop 1 w)) _ (at_mark is_open_brace (drop 1 w) (behind w all))
      (λ v av. bind (Entries Q) _ (read_entries 256 kind parts.sections v) _ (at_entries kind parts.sections v e av)
      (λ x ex ax. bind-past _ (mark is_close_brace x.1) _ (at_mark is_close_brace x.1 ax) (λ u au. (ex, au))))

  part-go : (symbol : Symbol) (parts : Parts) (w : List Lexeme) → PartsKeep parts → All P w → Keeps PartsKeep (part_by 256 symbol parts w)
  part-go s.Inputs parts w e all = at_inputs parts w e all
  part-go s.Outputs parts w e all = at_outputs parts w e all
  part-go (s.Section kind) parts w e all = at_section kind parts w e all
  part-go symbol parts w e all = all

  at_one_part : (parts : Parts) (w : List Lexeme) → PartsKeep parts → All P w → Keeps PartsKeep (read_part 256 parts w)
  unfolding read_part
  at_one_part parts w e all = part-go (front w) parts w e all

  no_entries : Entries Q no_sections
  no_entries = record { initially = All-nil Q; preset = All-nil Q; require = All-nil Q; assert = All-nil Q; assume = All-nil Q; guarantee = All-nil Q }

  at_parts : (w : List Lexeme) → All P w → Keeps PartsKeep (read_parts 256 w)
  unfolding read_parts
  at_parts w all = at_turns PartsKeep in_braces (read_part 256) at_one_part (length w) no_parts w no_entries all

  at_close_main : (parts : Parts) (w : List Lexeme) → PartsKeep parts → All P w → Keeps (Entries Q) (close_main parts w)
  unfolding close_main
  at_close_main parts w e all =
      split _ (in_braces (front w)) (unexpected w) _ all
      (split _ (not parts.inputs) _ _ all (split _ (not parts.outputs) _ (Ok (parts.sections, drop 1 w)) all (e, behind w all)))

  at_main : (w : List Lexeme) → All P w → Keeps (Entries Q) (read_main 256 w)
  unfolding read_main
  at_main w all =
      bind _ _ (part_word is_main part.Main w >>= mark is_open_brace >>= read_parts 256) _
      (bind-past _ (part_word is_main part.Main w >>= mark is_open_brace) (read_parts 256)
      (past-past (part_word is_main part.Main w) (mark is_open_brace) (at_part is_main part.Main w all) (λ v av. at_mark is_open_brace v av))
      at_parts)
      (λ x ex ax. at_close_main x.0 x.1 ex ax)

  -- what is read of a whole text
  abbrev pub KeepsText : Result (Heading × Sections) Halt → Type 0
  KeepsText (Ok r) = HeadingKeeps r.0 × Entries Q r.1
  KeepsText (Err e) = All P e.1

  text_end : (heading : Heading) (all : Sections) (r : Past) → HeadingKeeps heading → Entries Q all → KeepsPast r → KeepsText (r >>= λ _. Ok (heading, all))
  text_end heading all (Ok w) h e k = (h, e)
  text_end heading all (Err x) h e k = k

  text_main : (heading : Heading) (r : Read Sections) → HeadingKeeps heading → Keeps (Entries Q) r → KeepsText (r >>= λ q. end q.1 >>= λ _. Ok (heading, q.0))
  text_main heading (Ok q) h k = text_end heading q.0 (end q.1) h k.0 (at_end q.1 k.1)
  text_main heading (Err e) h k = k

  text_heading : (r : Read Heading) → Keeps HeadingKeeps r → KeepsText (r >>= λ r. read_main 256 r.1 >>= λ q. end q.1 >>= λ _. Ok (r.0, q.0))
  text_heading (Ok r) k = text_main r.0 (read_main 256 r.1) k.0 (at_main r.1 k.1)
  text_heading (Err e) k = k

  pub at_text : (w : List Lexeme) → All P w → KeepsText (read_text 256 w)
  unfolding read_text
  at_text w all = text_heading (read_heading w) (at_heading w all)

-- places are at most the text's length

abbrev pub BeginsWithin : ℕ → Lexeme → Type 0
BeginsWithin len t = t.from ≤ len

places : (len : ℕ) → Carries (BeginsWithin len) (λ place. place ≤ len) (λ _. Unit {0})
places len = record {
  at_place = λ t p. p;
  at_true = tt;
  at_false = tt;
  at_signal = λ t n p is. tt;
  at_unknown = λ t p is. tt;
  at_unary = λ op f q. tt;
  at_lone = λ op f g q r. tt;
  at_implies = λ f g q r. tt;
  at_all = λ fs q. tt;
  at_any = λ fs q. tt;
}

place_within : (len : ℕ) (w : List Lexeme) → All (BeginsWithin len) w → place_of len w ≤ len
place_within len [] all = omega arith
place_within len (t ∷ ts) all = All-head (BeginsWithin len) t ts all

begins : (len : ℕ) (w : List Lexeme) → All (SpanWithin len) w → All (BeginsWithin len) w
begins len w all = All-weaker (SpanWithin len) (BeginsWithin len) (λ t p. let a : t.from < t.to = p.0 in let b : t.to ≤ len = p.1 in omega arith) w all

-- a fault of the grammar stands at a byte of the text or at its end
pub fault_within : (len : ℕ) (w : List Lexeme) (what : TextFault) (rest : List Lexeme) → All (SpanWithin len) w → read_text 256 w ≡ Err (what, rest) → place_of len rest ≤ len
fault_within len w what rest all is =
    let k = at_text (BeginsWithin len) (λ place. place ≤ len) (λ _. Unit {0}) (places len) w (begins len w all) in
    place_within len rest (subst (KeepsText (BeginsWithin len) (λ place. place ≤ len) (λ _. Unit {0}) (places len)) is k)

-- so does the target
pub target_within : (len : ℕ) (w : List Lexeme) (r : Heading × Sections) → All (SpanWithin len) w → read_text 256 w ≡ Ok r → r.0.target.place ≤ len
target_within len w r all is =
    let k = at_text (BeginsWithin len) (λ place. place ≤ len) (λ _. Unit {0}) (places len) w (begins len w all) in
    (subst (KeepsText (BeginsWithin len) (λ place. place ≤ len) (λ _. Unit {0}) (places len)) is k).0

-- a fault that stands at the latest at a place stands at the latest at a later one
pub placed_later : (low high : ℕ) (e : TextError) → low ≤ high → IsPlaced low e → IsPlaced high e
placed_later low high (Fault what place) h p = omega arith
placed_later low high Memory h p = tt

pub err_placed : {A : Type 0} (len : ℕ) (r : Result A TextError) (e y : TextError) → r ≡ Err y → y ≡ e → IsPlaced len e → IfErr r (IsPlaced len)
err_placed len r e y is same p = subst (λ x. IfErr x (IsPlaced len)) (sym (is ∙ ap Err same)) p
