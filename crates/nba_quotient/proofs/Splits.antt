-- Classes split by what their states have in common.
use Rattle.std.proofs.Common.{◌≡◌, ℕ, ◌+◌, ◌<◌, ◌≤◌, ◌⊎◌, Bool, true, false, not, nat_lt, nat_eq, max, List, [], ◌∷◌, ◌++◌, length, get_or, take, inl, inr, refl, sym, ◌∙◌, ap, subst, arith, length-append}
use borrow.Author.Tests.{ltb-true, ltb-false}
use Rattle.std.specs.List.{All}
use Rattle.std.proofs.lemmas.Bool.Decides.{Decides-eqb}
use Rattle.std.proofs.lemmas.List.{get_or_append_left, get_or_push, get_or_default, take_more, take_all, take-append-le}
use Rattle.std.proofs.lemmas.List.Sums.{fold_push}
use Rattle.std.proofs.lemmas.List.Elements.{All-push, All-weaker, All-get_or}
use Rattle.word_core.specs.declared.automata.Edge.{Edge}
use Rattle.word_core.specs.Automaton.{AutomatonData}
use Rattle.word_core.specs.Cube.{holds}
use Rattle.nba_quotient.specs.Classes.{known, AreOrdered}
use Rattle.nba_quotient.specs.Ways.{Way, Kind, class_at, IsWayOf, AreWays, Within, IsNumberOf}

false≢true : false ≡ true → ⊥
false≢true e = cc

-- states of the same ways have the same edges
abbrev way : List ℕ → Edge → Way
way of e = (class_at of e.next, 0, not e.marked, e.cube)

not_true : (b : Bool) → not b ≡ true → b ≡ false
not_true true h = absurd (false≢true h)
not_true false h = refl

not_false : (b : Bool) → not b ≡ false → b ≡ true
not_false true h = refl
not_false false h = absurd (false≢true (sym h))

way_is : (of : List ℕ) (e : Edge) → IsWayOf of e (way of e)
way_is of e = record { class = refl; marked = not_true e.marked; unmarked = not_false e.marked; cube = refl }

pub same_ways : (a : AutomatonData) (of : List ℕ) (s t : ℕ) (ways : List Way) → AreWays a of s ways → AreWays a of t ways → Within a of s t
same_ways a of s t ways left right e there =
    let w = left.all e (way of e) there (way_is of e) in
    let f = right.only w.0 w.1 in (
      f.0,
      f.1,
      record {
        class = sym f.2.class ∙ w.2.class;
        marked = λ h. by w.0.2 w.0.2 f.0 refl (λ k. not_true e.marked (w.2.marked k)) f.2.unmarked h;
        cube = λ x h. subst (λ c. holds c x ≡ true) f.2.cube (w.2.cube x h);
      },
    )
  where
    by : (b c : Bool) (f : Edge) → c ≡ b → (c ≡ true → e.marked ≡ false) → (c ≡ false → f.marked ≡ true) → e.marked ≡ true → f.marked ≡ true
    by true c f is off on h = absurd (false≢true (sym (off is) ∙ h))
    by false c f is off on h = on is

abbrev pub none : Kind
none = (0, [])

-- the classes of the first states, and the kinds that were met there
pub record IsSplit (a : AutomatonData) (old : List ℕ) (kinds : List Kind) (of : List ℕ) : Type 0 where
  pub few : length kinds ≤ length of
  pub classes : All (λ n. n < length kinds) of
  pub placed : (s : ℕ) → s < length of → (ways : List Way) × AreWays a old s ways × (get_or kinds (class_at of s) none ≡ (class_at old s, ways))
  pub ordered : AreOrdered of
  pub counted : known of ≡ length kinds
  pub met : All (λ k. k.0 < known (take (length of) old)) kinds
  pub more : known (take (length of) old) ≤ length kinds
  pub same : length kinds ≡ known (take (length of) old) → (of ≡ take (length of) old) × ((i : ℕ) → i < length kinds → (get_or kinds i none).0 ≡ i)

known_push : (xs : List ℕ) (x : ℕ) → known (xs ++ x ∷ []) ≡ max (known xs) (x + 1)
known_push xs x = fold_push (λ n c. max n (c + 1)) 0 xs x

pub known_more : (xs : List ℕ) (s : ℕ) → s < length xs → known (take (s + 1) xs) ≡ max (known (take s xs)) (class_at xs s + 1)
known_more xs s l = ap known (take_more xs s 0 l) ∙ known_push (take s xs) (class_at xs s)

pub split_begins : (a : AutomatonData) (old : List ℕ) → IsSplit a old [] []
split_begins a old = record {
  few = omega arith;
  classes = λ k d h. absurd (omega arith);
  placed = λ s h. absurd (omega arith);
  ordered = λ s h. absurd (omega arith);
  counted = refl;
  met = λ k d h. absurd (omega arith);
  more = omega arith;
  same = λ e. (refl, λ i h. absurd (omega arith));
}

-- a state more
ordered_push : (of : List ℕ) (n : ℕ) → AreOrdered of → n ≤ known of → AreOrdered (of ++ n ∷ [])
ordered_push of n ordered le s l = by (nat_lt s (length of)) refl
  where
    by : (b : Bool) → nat_lt s (length of) ≡ b → class_at (of ++ n ∷ []) s ≤ known (take s (of ++ n ∷ []))
    by true e =
        let m : s < length of = ltb-true s (length of) e in
        let at : class_at (of ++ n ∷ []) s ≡ class_at of s = get_or_append_left of (n ∷ []) 0 s m in
        let front : take s (of ++ n ∷ []) ≡ take s of = take-append-le s of (n ∷ []) (omega arith) in
        let h : class_at of s ≤ known (take s of) = ordered s m in
        let k : known (take s (of ++ n ∷ [])) ≡ known (take s of) = ap known front in
        omega arith
    by false e =
        let m : s ≡ length of = omega (arith, ltb-false s (length of) e, length-append of (n ∷ [])) in
        let at : class_at (of ++ n ∷ []) s ≡ n = get_or_push of n 0 s (sym m) in
        let front : take s (of ++ n ∷ []) ≡ of = take-append-le s of (n ∷ []) (omega arith) ∙ ap (λ k. take k of) m ∙ take_all (length of) of (omega arith) in
        let k : known (take s (of ++ n ∷ [])) ≡ known of = ap known front in
        omega arith

placed_push : (a : AutomatonData) (old : List ℕ) (kinds more : List Kind) (of : List ℕ) (n : ℕ) (ways : List Way) → IsSplit a old kinds of
    → AreWays a old (length of) ways → ((i : ℕ) → i < length kinds → get_or more i none ≡ get_or kinds i none)
    → get_or more n none ≡ (class_at old (length of), ways)
    → (s : ℕ) → s < length (of ++ n ∷ []) → (ways : List Way) × AreWays a old s ways × (get_or more (class_at (of ++ n ∷ []) s) none ≡ (class_at old s, ways))
placed_push a old kinds more of n ways split are kept is s l = by (nat_lt s (length of)) refl
  where
    by : (b : Bool) → nat_lt s (length of) ≡ b → (ways : List Way) × AreWays a old s ways × (get_or more (class_at (of ++ n ∷ []) s) none ≡ (class_at old s, ways))
    by true e =
        let m : s < length of = ltb-true s (length of) e in
        let at : class_at (of ++ n ∷ []) s ≡ class_at of s = get_or_append_left of (n ∷ []) 0 s m in
        let within : class_at of s < length kinds = All-get_or (λ n. n < length kinds) of s 0 m split.classes in
        let old_one = split.placed s m in
        (old_one.0, old_one.1, ap (λ k. get_or more k none) at ∙ kept (class_at of s) within ∙ old_one.2)
    by false e =
        let m : length of ≡ s = omega (arith, ltb-false s (length of) e, length-append of (n ∷ [])) in
        let at : class_at (of ++ n ∷ []) s ≡ n = get_or_push of n 0 s m in
        (ways, subst (λ k. AreWays a old k ways) m are, ap (λ k. get_or more k none) at ∙ is ∙ ap (λ k. (class_at old k, ways)) m)

module _ (a : AutomatonData) (old : List ℕ) (kinds : List Kind) (of : List ℕ) (ways : List Way) (split : IsSplit a old kinds of)
    (within : length of < length old) (ordered : AreOrdered old) (are : AreWays a old (length of) ways) where
  abbrev s : ℕ
  s = length of

  abbrev class : ℕ
  class = class_at old s

  abbrev before : ℕ
  before = known (take s old)

  abbrev after : ℕ
  after = known (take (s + 1) old)

  after_is : after ≡ max before (class + 1)
  after_is = known_more old s within

  low : class ≤ before
  low = ordered s within

  size : (n : ℕ) → length (of ++ n ∷ []) ≡ s + 1
  size n = length-append of (n ∷ [])

  taken : (n : ℕ) → n ≡ class → of ≡ take s old → of ++ n ∷ [] ≡ take (s + 1) old
  taken n e h = ap (λ k. of ++ k ∷ []) e ∙ ap (λ l. l ++ class ∷ []) h ∙ sym (take_more old s 0 within)

  -- of a kind that was met before
  known_kind : (n : ℕ) → n < length kinds → get_or kinds n none ≡ (class, ways) → IsSplit a old kinds (of ++ n ∷ [])
  known_kind n l is =
      let first : (get_or kinds n none).0 ≡ class = ap (λ (k : Kind). k.0) is in
      let met_n : (get_or kinds n none).0 < before = All-get_or (λ k. k.0 < before) kinds n none l split.met in
      let stays : after ≡ before = omega (arith, after_is) in
      let known_of : known (of ++ n ∷ []) ≡ max (known of) (n + 1) = known_push of n in
      record {
        few = omega (arith, size n, split.few);
        classes = All-push (λ n. n < length kinds) of n split.classes l;
        placed = placed_push a old kinds kinds of n ways split are (λ i h. refl) is;
        ordered = ordered_push of n split.ordered (omega (arith, split.counted));
        counted = omega (arith, split.counted);
        met = subst (λ k. All (λ d. d.0 < known (take k old)) kinds) (sym (size n)) (subst (λ k. All (λ d. d.0 < k) kinds) (sym stays) split.met);
        more = subst (λ k. known (take k old) ≤ length kinds) (sym (size n)) (omega (arith, split.more));
        same = λ e.
            let e2 : length kinds ≡ after = e ∙ ap (λ k. known (take k old)) (size n) in
            let h = split.same (omega arith) in
            (taken n (sym (h.1 n l) ∙ first) h.0 ∙ ap (λ k. take k old) (sym (size n)), h.1);
      }

  -- of a new kind
  new_kind : IsSplit a old (kinds ++ (class, ways) ∷ []) (of ++ length kinds ∷ [])
  new_kind =
      let n : ℕ = length kinds in
      let kind : Kind = (class, ways) in
      let all : List Kind = kinds ++ kind ∷ [] in
      let count : length all ≡ n + 1 = length-append kinds (kind ∷ []) in
      let known_of : known (of ++ n ∷ []) ≡ max (known of) (n + 1) = known_push of n in
      let kept : (i : ℕ) → i < n → get_or all i none ≡ get_or kinds i none = λ i h. get_or_append_left kinds (kind ∷ []) none i h in
      let last : get_or all n none ≡ kind = get_or_push kinds kind none n refl in
      record {
        few = omega (arith, size n, split.few);
        classes = All-push (λ n. n < length all) of n (All-weaker (λ k. k < n) (λ k. k < length all) (λ k h. omega arith) of split.classes) (omega arith);
        placed = placed_push a old kinds all of n ways split are kept last;
        ordered = ordered_push of n split.ordered (omega (arith, split.counted));
        counted = omega (arith, split.counted);
        met = subst (λ k. All (λ d. d.0 < known (take k old)) all) (sym (size n))
            (All-push (λ d. d.0 < after) kinds kind (All-weaker (λ d. d.0 < before) (λ d. d.0 < after) (λ d h. omega (arith, after_is)) kinds split.met) (omega (arith, after_is)));
        more = subst (λ k. known (take k old) ≤ length all) (sym (size n)) (omega (arith, split.more, after_is, low));
        same = λ e.
            let e2 : length all ≡ after = e ∙ ap (λ k. known (take k old)) (size n) in
            let equal : n ≡ before = omega (arith, split.more, after_is, low) in
            let is : n ≡ class = omega (arith, after_is, low) in
            let h = split.same equal in
            (taken n is h.0 ∙ ap (λ k. take k old) (sym (size n)), λ i l. numbers i l kept last is h.1);
      }
    where
      numbers : (i : ℕ) → i < length (kinds ++ (class, ways) ∷ [])
          → ((i : ℕ) → i < length kinds → get_or (kinds ++ (class, ways) ∷ []) i none ≡ get_or kinds i none)
          → get_or (kinds ++ (class, ways) ∷ []) (length kinds) none ≡ (class, ways) → length kinds ≡ class
          → ((i : ℕ) → i < length kinds → (get_or kinds i none).0 ≡ i)
          → (get_or (kinds ++ (class, ways) ∷ []) i none).0 ≡ i
      numbers i l kept last is h = by (nat_lt i (length kinds)) refl
        where
          by : (b : Bool) → nat_lt i (length kinds) ≡ b → (get_or (kinds ++ (class, ways) ∷ []) i none).0 ≡ i
          by true e = let m : i < length kinds = ltb-true i (length kinds) e in ap (λ (k : Kind). k.0) (kept i m) ∙ h i m
          by false e =
              let m : i ≡ length kinds = omega (arith, ltb-false i (length kinds) e, length-append kinds ((class, ways) ∷ [])) in
              ap (λ k. (get_or (kinds ++ (class, ways) ∷ []) k none).0) m ∙ ap (λ (k : Kind). k.0) last ∙ sym is ∙ sym m

  pub split_goes : (now : List Kind) (n : ℕ) → IsNumberOf kinds now (class_at old (length of), ways) n → IsSplit a old now (of ++ n ∷ [])
  split_goes now n (inl h) =
      subst (λ ks. IsSplit a old ks (of ++ n ∷ [])) (sym h.0) (known_kind n h.1 (get_or_default kinds n none (class, ways) h.1 ∙ h.2))
  split_goes now n (inr h) =
      subst (λ ks. IsSplit a old ks (of ++ n ∷ [])) (sym h.0) (subst (λ k. IsSplit a old (kinds ++ (class, ways) ∷ []) (of ++ k ∷ [])) (sym h.1) new_kind)

-- where all states are split
module _ (a : AutomatonData) (old : List ℕ) (kinds : List Kind) (of : List ℕ) (split : IsSplit a old kinds of) (whole : length of ≡ length old) where
  all_taken : take (length of) old ≡ old
  all_taken = ap (λ k. take k old) whole ∙ take_all (length old) old (omega arith)

  pub alike : (s t : ℕ) → s < length of → t < length of → class_at of s ≡ class_at of t → Within a old s t
  alike s t ls lt e =
      let p = split.placed s ls in
      let q = split.placed t lt in
      let same : (class_at old s, p.0) ≡ (class_at old t, q.0) = sym p.2 ∙ ap (λ k. get_or kinds k none) e ∙ q.2 in
      let ways : p.0 ≡ q.0 = ap (λ (k : Kind). k.1) same in
      same_ways a old s t q.0 (subst (AreWays a old s) ways p.1) q.1

  pub progress : (of ≡ old) ⊎ (known old < length kinds)
  progress = by (nat_eq (length kinds) (known old)) refl
    where
      more : known old ≤ length kinds
      more = subst (λ l. known l ≤ length kinds) all_taken split.more

      by : (b : Bool) → nat_eq (length kinds) (known old) ≡ b → (of ≡ old) ⊎ (known old < length kinds)
      by true e =
          let is : length kinds ≡ known old = (Decides-eqb (length kinds) (known old)).0 e in
          inl ((split.same (is ∙ sym (ap known all_taken))).0 ∙ all_taken)
      by false e = inr (omega (arith, more, differ e))
        where
          differ : nat_eq (length kinds) (known old) ≡ false → length kinds ≡ known old → ⊥
          differ e is = false≢true (sym e ∙ (Decides-eqb (length kinds) (known old)).1 is)
