-- A machine has one play against the valuations of a lasso: that with the machine which gives them one after another.
use Rattle.std.proofs.Common.{◌≡◌, ℕ, zero, suc, ◌+◌, ◌-◌, ◌%◌, ◌^◌, ◌<◌, ◌⊎◌, Bool, true, false, if◌then◌else◌, nat_eq, nat_lt, List, [], ◌∷◌, ◌++◌, length, map, get_or, Some, None, inl, inr, refl, sym, ◌∙◌, ap, subst, arith}
use borrow.Author.Tests.{ltb-true, ltb-false}
use Rattle.std.specs.Int.Bits.{and_zero_r, and_zero_l}
use Rattle.std.specs.Prelude.{slice_get}
use Rattle.std.specs.List.{All, range_with_len}
use Rattle.std.specs.Option.{MatchOption, IsSome}
use Rattle.std.proofs.lemmas.Nat.{pow_pos, mod_below}
use Rattle.std.proofs.lemmas.List.FromFn.{get_or-map-range_with_len, length-map-range_with_len}
use Rattle.word_core.specs.declared.cubes.Cube.{Cube}
use Rattle.word_core.specs.declared.machines.Line.{Line}
use Rattle.word_core.specs.declared.names.Kind.TheVariants.{First}
use Rattle.word_core.specs.declared.names.Player.{Player}
use Rattle.word_core.specs.declared.names.Player.TheVariants.{System, Environment}
use Rattle.word_core.specs.Cube.{holds, IsCube}
use Rattle.word_core.specs.Lasso.{LassoData, bits_of, bits_at, prefix}
use Rattle.word_core.specs.Machine.{MachineData, IsMachine, IsLine, IsDecided, HasOneOwn, choice, lines_at, own_of, other_of, own_width, other_width}
use Rattle.word_core.specs.Play.{Move, move_of, IsPlayFrom}
use Rattle.dual_game.specs.Plays.{Opposed, IsPlayedOnce, PlayIsOne, others_in}
use Rattle.dual_game.proofs.Counted.{decided}
use Rattle.dual_game.proofs.Meeting.{meeting, turned, opposite}
use Rattle.dual_game.proofs.Places.{place, next_place, place_first, place_within, place_next, place_before, place_after, next_inside, chosen_above, small_mod}

any : Cube
any = record { care = 0; want = 0 }

any_holds : (x : ℕ) → holds any x ≡ true
unfolding any
any_holds x = ap (λ k. nat_eq k 0) (and_zero_r x)

any_fits : (w : ℕ) → IsCube w any
unfolding any
any_fits w = (pow_pos w, and_zero_l 0)

sides : (p : Player) → (opposite p ≡ System × p ≡ Environment) ⊎ (opposite p ≡ Environment × p ≡ System)
unfolding opposite
sides System = inr (refl, refl)
sides Environment = inl (refl, refl)

own_opposite : (p : Player) (inputs outputs : ℕ) → own_width (opposite p) inputs outputs ≡ other_width p inputs outputs
unfolding opposite
own_opposite System inputs outputs = refl
own_opposite Environment inputs outputs = refl

other_opposite : (p : Player) (inputs outputs : ℕ) → other_width (opposite p) inputs outputs ≡ own_width p inputs outputs
unfolding opposite
other_opposite System inputs outputs = refl
other_opposite Environment inputs outputs = refl

-- the letters of an unrolling from number k on
window : LassoData → ℕ → ℕ → List ℕ
window v k zero = []
window v k (suc n) = bits_at v k ∷ window v (suc k) n

window_more : (v : LassoData) (k n : ℕ) → window v k (suc n) ≡ window v k n ++ bits_at v (k + n) ∷ []
unfolding window
window_more v k zero = let e : k ≡ k + 0 = omega arith in ap (λ i. bits_at v i ∷ []) e
window_more v k (suc n) =
    let e : suc k + n ≡ k + suc n = omega arith in
    ap (λ xs. bits_at v k ∷ xs) (window_more v (suc k) n ∙ ap (λ i. window v (suc k) n ++ bits_at v i ∷ []) e)

prefix_is : (v : LassoData) (n : ℕ) → prefix v n ≡ window v 0 n
unfolding window
prefix_is v zero = refl
prefix_is v (suc n) = ap (λ xs. xs ++ bits_at v n ∷ []) (prefix_is v n) ∙ last n ∙ sym (window_more v 0 n)
  where
    last : (n : ℕ) → window v 0 n ++ bits_at v n ∷ [] ≡ window v 0 n ++ bits_at v (0 + n) ∷ []
    last n = let e : n ≡ 0 + n = omega arith in ap (λ k. window v 0 n ++ bits_at v k ∷ []) e

split_list : (a b : ℕ) (xs ys : List ℕ) → (a ∷ xs) ≡ (b ∷ ys) → (a ≡ b) × (xs ≡ ys)
split_list a b xs ys e = (cc, cc)

length_window : (w : LassoData) (k n : ℕ) → length (window w k n) ≡ n
unfolding window
length_window w k zero = refl
length_window w k (suc n) = ap suc (length_window w (suc k) n)

length_prefix : (w : LassoData) (n : ℕ) → length (prefix w n) ≡ n
length_prefix w n = ap length (prefix_is w n) ∙ length_window w 0 n

module _ (m : MachineData) (v : LassoData) (is : IsMachine m) (some : 0 < length v.cycle) (ranged : (n : ℕ) → bits_at v n < 2 ^ other_of m) where
  abbrev s : ℕ
  s = length v.stem

  abbrev c : ℕ
  c = length v.cycle

  abbrev at : ℕ → ℕ
  at n = place s c n

  some_places : 0 < s + c
  some_places = omega (arith, some)

  -- the letter of a number stands at its place
  letter_there : (n : ℕ) → bits_at v (at n) ≡ bits_at v n
  letter_there n = by (nat_lt n (s)) refl
    where
      by : (b : Bool) → nat_lt n (s) ≡ b → bits_at v (place (s) (c) n) ≡ bits_at v n
      by true e = ap (bits_at v) (place_before (s) (c) some n (ltb-true n (s) e))
      by false e =
          let l = ltb-false n (s) e in
          let r : ℕ = (n - s) % c in
          let minus : (s + r) - s ≡ r = omega arith in
          ap (bits_at v) (place_after (s) (c) some n l)
          ∙ ap bits_of (chosen_above (s + r) (s) (slice_get v.stem (s + r)) (slice_get v.cycle (((s + r) - s) % c)) (omega arith)
          ∙ ap (λ k. slice_get v.cycle (k % c)) minus
          ∙ ap (slice_get v.cycle) (small_mod r (c) (mod_below (n - s) (c) some))
          ∙ sym (chosen_above n (s) (slice_get v.stem n) (slice_get v.cycle r) l))

  line : ℕ → Line
  line i = record { when = any; own = bits_at v i; next = next_place s c i }

  -- the machine that gives the valuations, whatever the other side does
  giver : MachineData
  giver = record { player = opposite m.player; kind = First; inputs = m.inputs; outputs = m.outputs; states = map (λ i. line i ∷ []) (range_with_len 0 (s + c)) }

  states_count : length giver.states ≡ s + c
  unfolding giver
  states_count = length-map-range_with_len (λ i. line i ∷ []) 0 (s + c)

  state_is : (i : ℕ) (d : List Line) → i < s + c → get_or giver.states i d ≡ line i ∷ []
  unfolding giver
  state_is i d l = get_or-map-range_with_len (λ i. line i ∷ []) 0 (s + c) i i d l (omega arith)

  of_states : (P : List Line → Type 0) → ((i : ℕ) → i < s + c → P (line i ∷ [])) → All P giver.states
  of_states P h i d l = let in_range = subst (λ n. i < n) states_count l in subst P (sym (state_is i d in_range)) (h i in_range)

  chosen_line : (i x : ℕ) → choice (line i ∷ []) x ≡ Some (line i)
  unfolding line
  chosen_line i x = ap (λ b. if b then Some (line i) else None) (any_holds x)

  single : (P : Line → Type 0) (l : Line) → P l → All P (l ∷ [])
  single P l h zero d lt = h
  single P l h (suc k) d lt = absurd (omega arith)

  one_line : (l : Line) → HasOneOwn (l ∷ [])
  one_line l d zero zero lj lk = refl
  one_line l d zero (suc k) lj lk = absurd (omega arith)
  one_line l d (suc j) k lj lk = absurd (omega arith)

  in_line : (i : ℕ) → i < s + c → IsLine (own_of giver) (other_of giver) (length giver.states) (line i)
  unfolding giver line
  in_line i l = (
    any_fits (other_width (opposite m.player) m.inputs m.outputs),
    subst (λ w. bits_at v i < 2 ^ w) (sym (own_opposite m.player m.inputs m.outputs)) (ranged i),
    subst (λ n. next_place s c i < n) (sym states_count) (next_inside s c some i),
  )

  is_giver : IsMachine giver
  unfolding giver
  is_giver = record {
    begins = subst (λ n. 0 < n) (sym states_count) (omega (arith, some_places));
    narrow = is.narrow;
    ranged = of_states (All (IsLine (own_of giver) (other_of giver) (length giver.states))) (λ i l. single (IsLine (own_of giver) (other_of giver) (length giver.states)) (line i) (in_line i l));
    decided = of_states (IsDecided (other_of giver)) (λ i l x lx. subst IsSome (sym (chosen_line i x)) refl);
    first = λ _. of_states HasOneOwn (λ i l. one_line (line i));
  }

  opposed : Opposed giver m
  unfolding giver
  opposed = record { first = is_giver; second = is; first_kind = refl; players = sides m.player; inputs = refl; outputs = refl }

  own_there : (k own : ℕ) → own ≡ (line (at k)).own → own ≡ bits_at v k
  unfolding line
  own_there k own h = h ∙ letter_there k

  there_own : (k : ℕ) → bits_at v k ≡ (line (at k)).own
  unfolding line
  there_own k = sym (letter_there k)

  next_there : (k : ℕ) → (line (at k)).next ≡ at (suc k)
  unfolding line
  next_there k = place_next s c some k

  first_place : at 0 ≡ 0
  first_place = place_first s c some

  other_there : other_of giver ≡ own_of m
  unfolding giver
  other_there = other_opposite m.player m.inputs m.outputs

  -- the giver's line at the place of letter k
  gives : (k x : ℕ) → choice (lines_at giver (at k)) x ≡ Some (line (at k))
  gives k x = ap (λ ls. choice ls x) (state_is (at k) [] (place_within s c some k)) ∙ chosen_line (at k) x

  move_is : (x : ℕ) → move_of giver.player giver.inputs x ≡ record { own = (move_of m.player m.inputs x).other; other = (move_of m.player m.inputs x).own }
  unfolding giver
  move_is x = turned (opposite m.player) m.player m.inputs x (sides m.player)

  -- what it plays has its valuations
  given : (xs : List ℕ) (k : ℕ) → IsPlayFrom giver (at k) (map (move_of giver.player giver.inputs) xs) → others_in m xs ≡ window v k (length xs)
  unfolding window
  given [] k play = refl
  given (x ∷ xs) k play =
      let rest = map (move_of giver.player giver.inputs) xs in
      let own = (move_of giver.player giver.inputs x).own in
      let took = subst (λ o. MatchOption o ⊥ (λ l. (own ≡ l.own) × IsPlayFrom giver l.next rest)) (gives k (move_of giver.player giver.inputs x).other) play.1 in
      let first : (move_of m.player m.inputs x).other ≡ bits_at v k = ap (λ (u : Move). u.own) (sym (move_is x)) ∙ own_there k own took.0 in
      ap (λ y. y ∷ others_in m xs) first ∙ ap (λ ys. bits_at v k ∷ ys) (given xs (suc k) (subst (λ i. IsPlayFrom giver i rest) (next_there k) took.1))

  -- and a play of the machine with these valuations is one of it
  taking : (xs : List ℕ) (k t : ℕ) → t < length m.states → IsPlayFrom m t (map (move_of m.player m.inputs) xs) → others_in m xs ≡ window v k (length xs)
      → IsPlayFrom giver (at k) (map (move_of giver.player giver.inputs) xs)
  unfolding window
  taking [] k t in_t play same = tt
  taking (x ∷ xs) k t in_t play same =
      let move = move_of m.player m.inputs x in
      let rest = map (move_of giver.player giver.inputs) xs in
      let found = decided (IsLine (own_of m) (other_of m) (length m.states)) (lines_at m t) move.other (λ l. (move.own ≡ l.own) × IsPlayFrom m l.next (map (move_of m.player m.inputs) xs)) (is.ranged t [] in_t) play.1 in
      let in_own : move.own < 2 ^ other_of giver = subst (λ w. move.own < 2 ^ w) (sym (other_there)) (subst (λ o. o < 2 ^ own_of m) (sym found.2.0) found.1.1) in
      let parts = split_list move.other (bits_at v k) (others_in m xs) (window v (suc k) (length xs)) same in
      let later = taking xs (suc k) found.0.next found.1.2 found.2.1 parts.1 in
      subst (λ (u : Move). (u.other < 2 ^ other_of giver) × MatchOption (choice (lines_at giver (at k)) u.other) ⊥ (λ l. (u.own ≡ l.own) × IsPlayFrom giver l.next rest)) (sym (move_is x)) (
        in_own,
        subst (λ o. MatchOption o ⊥ (λ l. (move.other ≡ l.own) × IsPlayFrom giver l.next rest)) (sym (gives k move.own)) (
          parts.0 ∙ there_own k,
          subst (λ i. IsPlayFrom giver i rest) (sym (next_there k)) later,
        ),
      )

  pub played_once : IsPlayedOnce m v
  played_once =
      let met = meeting giver m opposed in
      record {
        word = met.word;
        endless = met.endless;
        plays = met.second;
        others = λ n.
            given (prefix met.word n) 0 (subst (λ i. IsPlayFrom giver i (map (move_of giver.player giver.inputs) (prefix met.word n))) (sym first_place) (met.first n))
            ∙ ap (window v 0) (length_prefix met.word n) ∙ sym (prefix_is v n);
        only = λ xs play same. met.only xs (subst (λ i. IsPlayFrom giver i (map (move_of giver.player giver.inputs) xs)) first_place (taking xs 0 0 is.begins play (same ∙ prefix_is v (length xs)))) play;
      }

pub play_is_one : PlayIsOne
play_is_one m v is some ranged = played_once m v is some ranged
