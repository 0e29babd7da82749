-- Two machines of opposite players and kinds over the same signals play one lasso together.
use Rattle.std.proofs.Common.{◌≡◌, ℕ, zero, suc, ◌+◌, ◌*◌, ◌-◌, ◌/◌, ◌%◌, ◌^◌, ◌<◌, ◌≤◌, ◌⊎◌, Bool, true, false, if◌then◌else◌, nat_eq, nat_lt, List, [], ◌∷◌, ◌++◌, length, map, get_or, Option, Some, None, inl, inr, refl, sym, ◌∙◌, ap, subst, arith}
use borrow.Author.Tests.{ltb-true, ltb-false}
use Rattle.std.specs.Prelude.{slice_get}
use Rattle.std.specs.Option.{MatchOption, IsSome}
use Rattle.std.specs.List.{All}
use Rattle.std.proofs.lemmas.Bool.Decides.{Decides-eqb}
use Rattle.std.proofs.lemmas.Nat.{div-mul-add, mod-mul-add, pow_pos, mod_below, div-add-mod'}
use Rattle.std.proofs.lemmas.List.{get_or_default}
use Rattle.std.proofs.lemmas.List.Elements.{All-get_or}
use Rattle.word_core.specs.declared.cubes.Letter.{Letter}
use Rattle.word_core.specs.declared.machines.Line.{Line}
use Rattle.word_core.specs.declared.names.Kind.TheVariants.{First}
use Rattle.word_core.specs.declared.names.Player.{Player}
use Rattle.word_core.specs.declared.names.Player.TheVariants.{System, Environment}
use Rattle.word_core.specs.Cube.{holds}
use Rattle.word_core.specs.Lasso.{LassoData, bits_of, bits_at, prefix}
use Rattle.word_core.specs.Machine.{MachineData, IsMachine, IsLine, IsDecided, HasOneOwn, choice, lines_at, own_of, other_of}
use Rattle.word_core.specs.Play.{Move, letter_of, move_of, IsPlayFrom, IsPlay, IsLassoPlay}
use Rattle.dual_game.specs.Plays.{Opposed, MeetOnce, PlaysMeetOnce}
use Rattle.dual_game.proofs.Counted.{letter_again, move_again}

false≢true : false ≡ true → ⊥
false≢true e = cc

-- a place below n where a test holds, or none
searched : (p : ℕ → Bool) (n : ℕ) → ((i : ℕ) × (i < n) × (p i ≡ true)) ⊎ ((i : ℕ) → i < n → p i ≡ false)
searched p zero = inr (λ i l. absurd (omega arith))
searched p (suc n) = by (searched p n) (p n) refl
  where
    by : ((i : ℕ) × (i < n) × (p i ≡ true)) ⊎ ((i : ℕ) → i < n → p i ≡ false) → (b : Bool) → p n ≡ b
        → ((i : ℕ) × (i < suc n) × (p i ≡ true)) ⊎ ((i : ℕ) → i < suc n → p i ≡ false)
    by (inl h) b e = inl (h.0, omega (arith, h.1), h.2)
    by (inr h) true e = inl (n, omega arith, e)
    by (inr h) false e = inr (λ i l. go i l (nat_lt i n) refl)
      where
        go : (i : ℕ) → i < suc n → (c : Bool) → nat_lt i n ≡ c → p i ≡ false
        go i l true t = h i (ltb-true i n t)
        go i l false t = let is : i ≡ n = omega (arith, ltb-false i n t) in ap p is ∙ e

-- a number that isn't v, counted without v
abbrev without : ℕ → ℕ → ℕ
without v x = if nat_lt x v then x else (x - 1)

-- n + 1 numbers below n: two of them are equal
pub pigeon : (n : ℕ) (f : ℕ → ℕ) → ((i : ℕ) → i ≤ n → f i < n) → (i : ℕ) × (j : ℕ) × (i < j) × (j ≤ n) × (f i ≡ f j)
pigeon zero f below = absurd (none (below 0 (omega arith)))
  where
    none : {x : ℕ} → x < 0 → ⊥
    none l = omega arith
pigeon (suc n) f below = by (searched (λ i. nat_eq (f i) (f (suc n))) (suc n)) (pigeon n (λ i. without (f (suc n)) (f i)))
  where
    by : ((i : ℕ) × (i < suc n) × (nat_eq (f i) (f (suc n)) ≡ true)) ⊎ ((i : ℕ) → i < suc n → nat_eq (f i) (f (suc n)) ≡ false)
        → (((i : ℕ) → i ≤ n → without (f (suc n)) (f i) < n) → (i : ℕ) × (j : ℕ) × (i < j) × (j ≤ n) × (without (f (suc n)) (f i) ≡ without (f (suc n)) (f j)))
        → (i : ℕ) × (j : ℕ) × (i < j) × (j ≤ suc n) × (f i ≡ f j)
    by (inl h) rest = (h.0, suc n, h.1, omega arith, (Decides-eqb (f h.0) (f (suc n))).0 h.2)
    by (inr h) rest =
        let r = rest small in
        (r.0, r.1, r.2, omega (arith, r.3), same r.0 r.1 (omega (arith, r.2, r.3)) (omega (arith, r.3)) r.4)
      where
        differs : (i : ℕ) → i ≤ n → f i ≡ f (suc n) → ⊥
        differs i l e = false≢true (sym (h i (omega arith)) ∙ (Decides-eqb (f i) (f (suc n))).1 e)

        cases : (i : ℕ) → i ≤ n → ((f i < f (suc n)) × (without (f (suc n)) (f i) ≡ f i)) ⊎ ((f (suc n) < f i) × (suc (without (f (suc n)) (f i)) ≡ f i))
        cases i l = go (nat_lt (f i) (f (suc n))) refl
          where
            go : (c : Bool) → nat_lt (f i) (f (suc n)) ≡ c
                → ((f i < f (suc n)) × ((if c then f i else (f i - 1)) ≡ f i)) ⊎ ((f (suc n) < f i) × (suc (if c then f i else (f i - 1)) ≡ f i))
            go true t = inl (ltb-true (f i) (f (suc n)) t, refl)
            go false t =
                let le : f (suc n) ≤ f i = ltb-false (f i) (f (suc n)) t in
                let no_same = differs i l in
                let more : f (suc n) < f i = above le no_same in
                inr (more, omega (arith, more))
              where
                above : {x y : ℕ} → y ≤ x → (x ≡ y → ⊥) → y < x
                above le no_same = omega (arith, le, no_same)

        small : (i : ℕ) → i ≤ n → without (f (suc n)) (f i) < n
        small i l = go (cases i l)
          where
            go : ((f i < f (suc n)) × (without (f (suc n)) (f i) ≡ f i)) ⊎ ((f (suc n) < f i) × (suc (without (f (suc n)) (f i)) ≡ f i)) → without (f (suc n)) (f i) < n
            go (inl c) = omega (arith, c.0, c.1, below (suc n) (omega arith))
            go (inr c) = omega (arith, c.1, below i (omega arith))

        same : (i j : ℕ) → i ≤ n → j ≤ n → without (f (suc n)) (f i) ≡ without (f (suc n)) (f j) → f i ≡ f j
        same i j li lj e = go (cases i li) (cases j lj)
          where
            go : ((f i < f (suc n)) × (without (f (suc n)) (f i) ≡ f i)) ⊎ ((f (suc n) < f i) × (suc (without (f (suc n)) (f i)) ≡ f i))
                → ((f j < f (suc n)) × (without (f (suc n)) (f j) ≡ f j)) ⊎ ((f (suc n) < f j) × (suc (without (f (suc n)) (f j)) ≡ f j)) → f i ≡ f j
            go (inl c) (inl d) = omega (arith, c.1, d.1, e)
            go (inl c) (inr d) = absurd (omega (arith, c.0, c.1, d.0, d.1, e))
            go (inr c) (inl d) = absurd (omega (arith, c.0, c.1, d.0, d.1, e))
            go (inr c) (inr d) = omega (arith, c.1, d.1, e)

-- the chosen line is one of the lines
pub chosen_in : (P : Line → Type 0) (lines : List Line) (x : ℕ) (l : Line) → All P lines → choice lines x ≡ Some l → (i : ℕ) × (i < length lines) × (get_or lines i l ≡ l) × P l
chosen_in P lines x l all e =
    let r = found lines e in
    (r.0, r.1, r.2, subst P r.2 (All-get_or P lines r.0 l r.1 all))
  where
    some_is : (a b : Line) → Some a ≡ Some b → a ≡ b
    some_is a b e = cc

    found : (lines : List Line) → choice lines x ≡ Some l → (i : ℕ) × (i < length lines) × (get_or lines i l ≡ l)
    found [] e = absurd (nothing e)
      where
        nothing : None ≡ Some l → ⊥
        nothing e = cc
    found (k ∷ ks) e = by (holds k.when x) e (found ks)
      where
        by : (b : Bool) → (if b then Some k else choice ks x) ≡ Some l → (choice ks x ≡ Some l → (i : ℕ) × (i < length ks) × (get_or ks i l ≡ l))
            → (i : ℕ) × (i < length (k ∷ ks)) × (get_or (k ∷ ks) i l ≡ l)
        by true h rest = (0, omega arith, some_is k l h)
        by false h rest = let r = rest h in (suc r.0, omega (arith, r.1), r.2)

no_line : Line
no_line = record { when = record { care = 0; want = 0 }; own = 0; next = 0 }

or_none : Option Line → Line
or_none None = no_line
or_none (Some l) = l

-- the line that a state has for a valuation
line_of : List Line → ℕ → Line
line_of lines x = or_none (choice lines x)

unfoldable pub opposite : Player → Player
opposite System = Environment
opposite Environment = System

-- each player sees the other's sides exchanged
pub turned : (p q : Player) (inputs x : ℕ) → (p ≡ System × q ≡ Environment) ⊎ (p ≡ Environment × q ≡ System)
    → move_of p inputs x ≡ record { own = (move_of q inputs x).other; other = (move_of q inputs x).own }
turned p q inputs x (inl h) = rw (h.0, h.1) refl
turned p q inputs x (inr h) = rw (h.0, h.1) refl

-- what a decided state answers
module _ (m : MachineData) (is : IsMachine m) (s x : ℕ) (in_s : s < length m.states) (in_x : x < 2 ^ other_of m) where
  line : Line
  line = line_of (lines_at m s) x

  chosen : choice (lines_at m s) x ≡ Some line
  unfolding line line_of or_none
  chosen = by (choice (lines_at m s) x) (All-get_or (IsDecided (other_of m)) m.states s [] in_s is.decided x in_x)
    where
      by : (o : Option Line) → IsSome o → o ≡ Some (or_none o)
      by None h = absurd (false≢true h)
      by (Some l) h = refl

  is_line : IsLine (own_of m) (other_of m) (length m.states) line
  is_line =
      let r = chosen_in (IsLine (own_of m) (other_of m) (length m.states)) (lines_at m s) x line
      (All-get_or (All (IsLine (own_of m) (other_of m) (length m.states))) m.states s [] in_s is.ranged) chosen in
      r.3

  place : (i : ℕ) × (i < length (lines_at m s)) × (get_or (lines_at m s) i line ≡ line)
  place =
      let r = chosen_in (IsLine (own_of m) (other_of m) (length m.states)) (lines_at m s) x line
      (All-get_or (All (IsLine (own_of m) (other_of m) (length m.states))) m.states s [] in_s is.ranged) chosen in
      (r.0, r.1, r.2)

-- under kind First all valuations have one answer
one_own : (m : MachineData) (is : IsMachine m) → m.kind ≡ First → (s x y : ℕ) → s < length m.states → x < 2 ^ other_of m → y < 2 ^ other_of m
    → (line_of (lines_at m s) x).own ≡ (line_of (lines_at m s) y).own
unfolding line
one_own m is first s x y in_s in_x in_y =
    let p = place m is s x in_s in_x in
    let q = place m is s y in_s in_y in
    let lines = lines_at m s in
    let d = line_of lines x in
    let one : HasOneOwn lines = All-get_or HasOneOwn m.states s [] in_s (is.first first) in
    let other : get_or lines q.0 d ≡ line_of lines y = get_or_default lines q.0 d (line_of lines y) q.1 ∙ q.2 in
    ap (λ (l : Line). l.own) (sym p.2) ∙ one d p.0 q.0 p.1 q.1 ∙ ap (λ (l : Line). l.own) other

-- the line that a play takes
taken_line : (lines : List Line) (x : ℕ) (Q : Line → Type 0) → MatchOption (choice lines x) ⊥ Q → Q (line_of lines x)
unfolding line_of or_none
taken_line lines x Q h = by (choice lines x) h
  where
    by : (o : Option Line) → MatchOption o ⊥ Q → Q (or_none o)
    by None h = absurd h
    by (Some l) h = h

module _ (f g : MachineData) (opposed : Opposed f g) where
  own_first : own_of f ≡ other_of g
  own_first = by opposed.players
    where
      by : (f.player ≡ System × g.player ≡ Environment) ⊎ (f.player ≡ Environment × g.player ≡ System) → own_of f ≡ other_of g
      by (inl h) = rw (h.0, h.1) opposed.outputs
      by (inr h) = rw (h.0, h.1) opposed.inputs

  own_second : own_of g ≡ other_of f
  own_second = by opposed.players
    where
      by : (f.player ≡ System × g.player ≡ Environment) ⊎ (f.player ≡ Environment × g.player ≡ System) → own_of g ≡ other_of f
      by (inl h) = rw (h.0, h.1) (sym opposed.inputs)
      by (inr h) = rw (h.0, h.1) (sym opposed.outputs)

  -- what the first mover does in a state, the second mover's line for it, and the first mover's line for that
  abbrev does : ℕ → ℕ
  does t = (line_of (lines_at f t) 0).own

  abbrev second_line : ℕ → ℕ → Line
  second_line s t = line_of (lines_at g s) (does t)

  abbrev first_line : ℕ → ℕ → Line
  first_line s t = line_of (lines_at f t) (second_line s t).own

  -- the states of the second mover and of the first one after so many moves
  states : ℕ → ℕ × ℕ
  states zero = (0, 0)
  states (suc n) = ((second_line (states n).0 (states n).1).next, (first_line (states n).0 (states n).1).next)

  some_valuation : (k : ℕ) → 0 < 2 ^ k
  some_valuation k = pow_pos k

  does_within : (t : ℕ) → t < length f.states → does t < 2 ^ other_of g
  unfolding line
  does_within t l = subst (λ k. does t < 2 ^ k) own_first (is_line f opposed.first t 0 l (some_valuation (other_of f))).1

  answer_within : (s t : ℕ) → s < length g.states → t < length f.states → (second_line s t).own < 2 ^ other_of f
  unfolding line
  answer_within s t ls lt = subst (λ k. (second_line s t).own < 2 ^ k) own_second (is_line g opposed.second s (does t) ls (does_within t lt)).1

  within : (n : ℕ) → ((states n).0 < length g.states) × ((states n).1 < length f.states)
  unfolding states line
  within zero = (opposed.second.begins, opposed.first.begins)
  within (suc n) =
      let h = within n in (
        (is_line g opposed.second (states n).0 (does (states n).1) h.0 (does_within (states n).1 h.1)).2,
        (is_line f opposed.first (states n).1 (second_line (states n).0 (states n).1).own h.1 (answer_within (states n).0 (states n).1 h.0 h.1)).2,
      )

  -- the letter of each move
  letter : ℕ → ℕ
  letter n = letter_of g.player g.inputs (record { own = (second_line (states n).0 (states n).1).own; other = does (states n).1 })

  move_second : (n : ℕ) → move_of g.player g.inputs (letter n) ≡ record { own = (second_line (states n).0 (states n).1).own; other = does (states n).1 }
  unfolding letter
  move_second n =
      let o : ℕ = (second_line (states n).0 (states n).1).own in
      let in_own : o < 2 ^ own_of g = subst (λ k. o < 2 ^ k) (sym own_second) (answer_within (states n).0 (states n).1 (within n).0 (within n).1) in
      move_again g.player g.inputs g.outputs o (does (states n).1) in_own (does_within (states n).1 (within n).1)

  -- the first mover sees the sides exchanged
  move_first : (n : ℕ) → move_of f.player f.inputs (letter n) ≡ record { own = does (states n).1; other = (second_line (states n).0 (states n).1).own }
  move_first n =
      ap (λ i. move_of f.player i (letter n)) opposed.inputs ∙ turned f.player g.player g.inputs (letter n) opposed.players
      ∙ ap (λ (v : Move). record { own = v.other; other = v.own }) (move_second n)

  letters : ℕ → ℕ → List ℕ
  letters k zero = []
  letters k (suc n) = letter k ∷ letters (suc k) n

  letters_more : (k n : ℕ) → letters k (suc n) ≡ letters k n ++ letter (k + n) ∷ []
  unfolding letters
  letters_more k zero = let e : k ≡ k + 0 = omega arith in ap (λ i. letter i ∷ []) e
  letters_more k (suc n) =
      let e : suc k + n ≡ k + suc n = omega arith in
      ap (λ xs. letter k ∷ xs) (letters_more (suc k) n ∙ ap (λ i. letters (suc k) n ++ letter i ∷ []) e)

  -- from each moment on both play these letters
  plays_second : (k n : ℕ) → IsPlayFrom g (states k).0 (map (move_of g.player g.inputs) (letters k n))
  unfolding letters states line
  plays_second k zero = tt
  plays_second k (suc n) =
      let s = (states k).0 in
      let t = (states k).1 in
      let in_other : does t < 2 ^ other_of g = does_within t (within k).1 in
      let is : choice (lines_at g s) (does t) ≡ Some (second_line s t) = chosen g opposed.second s (does t) (within k).0 in_other in
      let rest = map (move_of g.player g.inputs) (letters (suc k) n) in
      subst (λ (v : Move). (v.other < 2 ^ other_of g) × MatchOption (choice (lines_at g s) v.other) ⊥ (λ l. (v.own ≡ l.own) × IsPlayFrom g l.next rest)) (sym (move_second k))
      (in_other, subst (λ o. MatchOption o ⊥ (λ l. ((second_line s t).own ≡ l.own) × IsPlayFrom g l.next rest)) (sym is) (refl, plays_second (suc k) n))

  plays_first : (k n : ℕ) → IsPlayFrom f (states k).1 (map (move_of f.player f.inputs) (letters k n))
  unfolding letters states line
  plays_first k zero = tt
  plays_first k (suc n) =
      let s = (states k).0 in
      let t = (states k).1 in
      let o : ℕ = (second_line s t).own in
      let in_other : o < 2 ^ other_of f = answer_within s t (within k).0 (within k).1 in
      let is : choice (lines_at f t) o ≡ Some (first_line s t) = chosen f opposed.first t o (within k).1 in_other in
      let own : does t ≡ (first_line s t).own = one_own f opposed.first opposed.first_kind t 0 o (within k).1 (some_valuation (other_of f)) in_other in
      let rest = map (move_of f.player f.inputs) (letters (suc k) n) in
      subst (λ (v : Move). (v.other < 2 ^ other_of f) × MatchOption (choice (lines_at f t) v.other) ⊥ (λ l. (v.own ≡ l.own) × IsPlayFrom f l.next rest)) (sym (move_first k))
      (in_other, subst (λ o. MatchOption o ⊥ (λ l. (does t ≡ l.own) × IsPlayFrom f l.next rest)) (sym is) (own, plays_first (suc k) n))

  -- the pair of states comes again
  code : ℕ → ℕ
  code n = (states n).0 * length f.states + (states n).1

  code_within : (n : ℕ) → code n < length g.states * length f.states
  unfolding code
  code_within n = below (states n).0 (states n).1 (length g.states) (length f.states) (within n).0 (within n).1
    where
      below : (s t m n : ℕ) → s < m → t < n → s * n + t < m * n
      below s t zero n ls lt = absurd (omega arith)
      below zero t (suc m) n ls lt = let e : suc m * n ≡ m * n + n = omega arith in omega arith
      below (suc s) t (suc m) n ls lt =
          let h : s * n + t < m * n = below s t m n (omega arith) lt in
          let e : suc m * n ≡ m * n + n = omega arith in
          let d : suc s * n ≡ s * n + n = omega arith in
          omega (arith, h, e, d)

  same_states : (i j : ℕ) → code i ≡ code j → states i ≡ states j
  unfolding code
  same_states i j e =
      let n : ℕ = length f.states in
      let a : (states i).0 ≡ (states j).0 =
      sym (div-mul-add (states i).0 n (states i).1 (within i).1) ∙ ap (λ c. c / n) e ∙ div-mul-add (states j).0 n (states j).1 (within j).1 in
      let b : (states i).1 ≡ (states j).1 =
      sym (mod-mul-add (states i).0 n (states i).1 (within i).1) ∙ ap (λ c. c % n) e ∙ mod-mul-add (states j).0 n (states j).1 (within j).1 in
      ap (λ (s : ℕ). (s, (states i).1)) a ∙ ap (λ (t : ℕ). ((states j).0, t)) b

  -- from then on everything does
  repeats : (i p d : ℕ) → states (i + p) ≡ states i → states (i + d + p) ≡ states (i + d)
  unfolding states
  repeats i p zero e =
      let a : i + 0 ≡ i = omega arith in
      ap (λ k. states (k + p)) a ∙ e ∙ ap states (sym a)
  repeats i p (suc d) e =
      let a : i + suc d + p ≡ suc (i + d + p) = omega arith in
      let b : suc (i + d) ≡ i + suc d = omega arith in
      ap states a ∙ ap (λ (q : ℕ × ℕ). ((second_line q.0 q.1).next, (first_line q.0 q.1).next)) (repeats i p d e) ∙ ap states b

  letter_repeats : (i p d q : ℕ) → states (i + p) ≡ states i → letter (i + d + q * p) ≡ letter (i + d)
  unfolding letter
  letter_repeats i p d zero e = let a : i + d + 0 * p ≡ i + d = omega arith in ap letter a
  letter_repeats i p d (suc q) e =
      let a : i + d + suc q * p ≡ i + (d + q * p) + p = omega arith in
      let b : i + (d + q * p) ≡ i + d + q * p = omega arith in
      ap letter a ∙ ap (λ (s : ℕ × ℕ). letter_of g.player g.inputs (record { own = (second_line s.0 s.1).own; other = does s.1 })) (repeats i p (d + q * p) e)
      ∙ ap letter b ∙ letter_repeats i p d q e

  of_letters : List ℕ → List Letter
  of_letters xs = map (λ x. record { 0 = x }) xs

  length_letters : (k n : ℕ) → length (of_letters (letters k n)) ≡ n
  unfolding letters of_letters
  length_letters k zero = refl
  length_letters k (suc n) = ap suc (length_letters (suc k) n)

  letter_in : (k n d : ℕ) → d < n → slice_get (of_letters (letters k n)) d ≡ Some (record { 0 = letter (k + d) })
  unfolding letters of_letters
  letter_in k zero d l = absurd (omega arith)
  letter_in k (suc n) zero l = let e : k ≡ k + 0 = omega arith in ap (λ i. Some (record { 0 = letter i })) e
  letter_in k (suc n) (suc d) l =
      let e : suc k + d ≡ k + suc d = omega arith in
      letter_in (suc k) n d (omega arith) ∙ ap (λ i. Some (record { 0 = letter i })) e

  module _ (i p : ℕ) (some : 0 < p) (again : states (i + p) ≡ states i) where
    lasso : LassoData
    lasso = record { stem = of_letters (letters 0 i); cycle = of_letters (letters i p) }

    bits_are : (n : ℕ) → bits_at lasso n ≡ letter n
    unfolding lasso
    bits_are n = by (nat_lt n i) refl
      where
        whole : bits_at lasso n ≡ bits_of (if nat_lt n i then slice_get (of_letters (letters 0 i)) n else slice_get (of_letters (letters i p)) ((n - i) % p))
        whole = rw (length_letters 0 i, length_letters i p) refl

        first : (n : ℕ) → letter (0 + n) ≡ letter n
        first n = let e : 0 + n ≡ n = omega arith in ap letter e

        by : (b : Bool) → nat_lt n i ≡ b → bits_at lasso n ≡ letter n
        by true l = whole ∙ ap (λ b. bits_of (if b then slice_get (of_letters (letters 0 i)) n else slice_get (of_letters (letters i p)) ((n - i) % p))) l
            ∙ ap bits_of (letter_in 0 i n (ltb-true n i l)) ∙ first n
        by false l =
            let r : ℕ = (n - i) % p in
            let q : ℕ = (n - i) / p in
            let lr : r < p = mod_below (n - i) p some in
            let parts : q * p + r ≡ n - i = div-add-mod' (n - i) p in
            let is : i + r + q * p ≡ n = omega (arith, ltb-false n i l, parts) in
            whole ∙ ap (λ b. bits_of (if b then slice_get (of_letters (letters 0 i)) n else slice_get (of_letters (letters i p)) ((n - i) % p))) l
            ∙ ap bits_of (letter_in i p r lr) ∙ sym (letter_repeats i p r q again) ∙ ap letter is

    prefix_is : (n : ℕ) → prefix lasso n ≡ letters 0 n
    unfolding letters
    prefix_is zero = refl
    prefix_is (suc n) = ap (λ xs. xs ++ bits_at lasso n ∷ []) (prefix_is n) ∙ ap (λ x. letters 0 n ++ x ∷ []) (bits_are n) ∙ last n ∙ sym (letters_more 0 n)
      where
        last : (n : ℕ) → letters 0 n ++ letter n ∷ [] ≡ letters 0 n ++ letter (0 + n) ∷ []
        last n = let e : n ≡ 0 + n = omega arith in ap (λ k. letters 0 n ++ letter k ∷ []) e

    both_play : IsLassoPlay f lasso × IsLassoPlay g lasso
    unfolding states
    both_play = (
      λ n. subst (λ xs. IsPlay f xs) (sym (prefix_is n)) (plays_first 0 n),
      λ n. subst (λ xs. IsPlay g xs) (sym (prefix_is n)) (plays_second 0 n),
    )

  -- from each moment on what both play are these letters
  both_only : (letters' : List ℕ) (k : ℕ) → IsPlayFrom f (states k).1 (map (move_of f.player f.inputs) letters')
      → IsPlayFrom g (states k).0 (map (move_of g.player g.inputs) letters') → letters' ≡ letters k (length letters')
  unfolding letters states letter
  both_only [] k by_first by_second = refl
  both_only (x ∷ xs) k by_first by_second =
      let s : ℕ = (states k).0 in
      let t : ℕ = (states k).1 in
      let v : Move = move_of f.player f.inputs x in
      let w : Move = move_of g.player g.inputs x in
      let turned_v : v ≡ record { own = w.other; other = w.own } = ap (λ i. move_of f.player i x) opposed.inputs ∙ turned f.player g.player g.inputs x opposed.players in
      let one = taken_line (lines_at f t) v.other (λ l. (v.own ≡ l.own) × IsPlayFrom f l.next (map (move_of f.player f.inputs) xs)) by_first.1 in
      let two = taken_line (lines_at g s) w.other (λ l. (w.own ≡ l.own) × IsPlayFrom g l.next (map (move_of g.player g.inputs) xs)) by_second.1 in
      let does_so : w.other ≡ does t = ap (λ (u : Move). u.own) (sym turned_v) ∙ one.0 ∙ one_own f opposed.first opposed.first_kind t v.other 0 (within k).1 by_first.0 (some_valuation (other_of f)) in
      let second_is : line_of (lines_at g s) w.other ≡ second_line s t = ap (λ o. line_of (lines_at g s) o) does_so in
      let answers : w.own ≡ (second_line s t).own = two.0 ∙ ap (λ (l : Line). l.own) second_is in
      let first_is : line_of (lines_at f t) v.other ≡ first_line s t = ap (λ (u : Move). line_of (lines_at f t) u.other) turned_v ∙ ap (λ o. line_of (lines_at f t) o) answers in
      let move_is : w ≡ record { own = (second_line s t).own; other = does t } = ap (λ o. record { own = o; other = w.other }) answers ∙ ap (λ o. record { own = (second_line s t).own; other = o }) does_so in
      let x_is : x ≡ letter k = sym (letter_again g.player g.inputs x) ∙ ap (letter_of g.player g.inputs) move_is in
      let rest = both_only xs (suc k)
      (subst (λ (l : Line). IsPlayFrom f l.next (map (move_of f.player f.inputs) xs)) first_is one.1)
      (subst (λ (l : Line). IsPlayFrom g l.next (map (move_of g.player g.inputs) xs)) second_is two.1) in
      ap (λ y. y ∷ xs) x_is ∙ ap (λ ys. letter k ∷ ys) rest

  pub meeting : MeetOnce f g
  unfolding lasso states
  meeting =
      let n : ℕ = length g.states * length f.states in
      let twice = pigeon n code (λ i l. code_within i) in
      let i : ℕ = twice.0 in
      let p : ℕ = twice.1 - twice.0 in
      let some : 0 < p = omega (arith, twice.2) in
      let at : i + p ≡ twice.1 = omega (arith, twice.2) in
      let again : states (i + p) ≡ states i = ap states at ∙ sym (same_states i twice.1 twice.4) in
      let both = both_play i p some again in
      record {
        word = lasso i p some again;
        endless = subst (λ k. 0 < k) (sym (length_letters i p)) some;
        first = both.0;
        second = both.1;
        only = λ xs by_first by_second. both_only xs 0 by_first by_second ∙ sym (prefix_is i p some again (length xs));
      }

pub plays_meet_once : PlaysMeetOnce
plays_meet_once f g opposed = meeting f g opposed
