-- A list of vectors has one machine.
use Rattle.std.proofs.Common.{◌≡◌, ℕ, ◌+◌, ◌<◌, ◌≤◌, ◌^◌, Bool, true, false, nat_lt, List, [], ◌∷◌, ◌++◌, length, take, drop, get_or, Option, Some, None, refl, sym, ◌∙◌, ap, subst, arith, append_assoc, append-nil, length-append}
use Rattle.std.specs.Prelude.{ℤ, option_map}
use Rattle.std.specs.List.{All, AllZip, Contains, flat_map}
use Rattle.std.specs.Option.{IsSomeAnd}
use Rattle.std.proofs.lemmas.Bool.{ltb-true, ltb-false}
use Rattle.std.proofs.lemmas.List.{get_or-map, get_or_at, length-map, take_at}
use Rattle.std.proofs.lemmas.List.Concat.{flat_map-append}
use Rattle.std.proofs.lemmas.List.Elements.{All-contains}
use Rattle.std.proofs.lemmas.Nat.{pow_pos}
use Rattle.std.proofs.lemmas.Option.{same_Some}
use Rattle.word_core.specs.declared.machines.Line.{Line}
use Rattle.word_core.specs.Machine.{choice}
use Rattle.letter_tree.specs.Splitting.{all_cube}
use Rattle.game_form.specs.Game.{GameData, other_width}
use Rattle.strategy_play.specs.Exact.{led_to, IsLeast, IsMachineOfList}
use Rattle.strategy_play.specs.Laws.{MachineIsOne}
use Rattle.strategy_play.specs.Splitting.{decision, AreSplit}
use Rattle.strategy_play.specs.Strategy.{entry_of_state}
use Rattle.strategy_play.specs.Walk.{InTurn, nexts_of}
use Rattle.strategy_play.proofs.OneSplitting.{one_splitting}
use Rattle.strategy_play.proofs.Played.{decides_within}
use Rattle.strategy_play.proofs.Turns.{turns_rise, turns_end, turns_parts, turns_below, Agree, one_turn}
use Rattle.strategy_play.proofs.Walked.{states_turn}

-- what is decided at a valuation has what the line that decides has
record HasValue (P : ℕ × ℕ → Type 0) (o : Option (ℕ × ℕ)) : Type 0 where
  value : ℕ × ℕ
  is : o ≡ Some value
  has : P value

value_of : (P : ℕ × ℕ → Type 0) (lines : List Line) (x : ℕ) → IsSomeAnd (choice lines x) (λ l. P (l.own, l.next)) → HasValue P (decision lines x)
value_of P lines x h = by (choice lines x) refl h
  where
    by : (o : Option Line) → choice lines x ≡ o → IsSomeAnd o (λ l. P (l.own, l.next)) → HasValue P (decision lines x)
    by None e k = absurd k
    by (Some l) e k = record { value = (l.own, l.next); is = ap (option_map (λ (l : Line). (l.own, l.next))) e; has = k }

-- there is one least valuation that stays, and one entry to which it leads
least_one : (g : GameData) (entries : List (List ℤ)) (f : List ℤ) (other own entry own' entry' : ℕ) → IsLeast g entries f other own entry → IsLeast g entries f other own' entry' → (own ≡ own') × (entry ≡ entry')
least_one g entries f other own entry own' entry' a b = (same, same_Some entry entry' (sym a.leads ∙ ap (λ o. led_to g entries f o other) same ∙ b.leads))
  where
    same : own ≡ own'
    same = by (nat_lt own own') refl (nat_lt own' own) refl
      where
        by : (c : Bool) → nat_lt own own' ≡ c → (d : Bool) → nat_lt own' own ≡ d → own ≡ own'
        by true e d h = absurd (b.least own (ltb-true own own' e) a.stays)
        by false e true h = absurd (a.least own' (ltb-true own' own h) b.stays)
        by false e false h = omega (arith, ltb-false own own' e, ltb-false own' own h)

-- the numbers to which the lines of a state lead, and the numbers after it
record IsNextTurn (a : ℕ) (line : List Line) (order : List ℕ) : Type 0 where
  count : ℕ
  turn : InTurn a (nexts_of line) count
  within : count ≤ length order

abbrev all_nexts : List (List Line) → List ℕ
all_nexts states = flat_map nexts_of states

module _ (g : GameData) (entries : List (List ℤ)) (states : List (List Line)) (is : IsMachineOfList g entries states) (before rest : List (List Line)) (a : ℕ) (turn : InTurn 1 (all_nexts before) a) where
  -- a state that follows is met before
  met_before : (line : List Line) → states ≡ before ++ line ∷ rest → length before < a
  met_before line e = by (nat_lt 0 (length before)) refl
    where
      size : length states ≡ length before + length (line ∷ rest)
      size = ap (λ (ls : List (List Line)). length ls) e ∙ length-append before (line ∷ rest)

      by : (b : Bool) → nat_lt 0 (length before) ≡ b → length before < a
      by true k =
          let taken : take (length before) states ≡ before = ap (take (length before)) e ∙ take_at before (line ∷ rest) (length before) refl in
          All-contains (λ n. n < a) (all_nexts before) (length before) (turns_below 1 (all_nexts before) a turn)
          (subst (λ ls. Contains (all_nexts ls) (length before)) taken (is.met (length before) (ltb-true 0 (length before) k) (omega (arith, size))))
      by false k = omega (arith, ltb-false 0 (length before) k, turns_rise 1 (all_nexts before) a turn)

  next_turn : (line : List Line) → states ≡ before ++ line ∷ rest → IsNextTurn a line is.order
  next_turn line e =
      let whole : InTurn 1 (all_nexts before ++ all_nexts (line ∷ rest)) (length states) = subst (λ ns. InTurn 1 ns (length states)) (ap all_nexts e ∙ flat_map-append nexts_of before (line ∷ rest)) is.breadth_first in
      let first = turns_parts 1 (all_nexts before) (all_nexts (line ∷ rest)) (length states) whole in
      let then = turns_parts first.0 (nexts_of line) (all_nexts rest) (length states) first.2 in
      let here : first.0 ≡ a = turns_end 1 (all_nexts before) first.0 a first.1 turn in
      record {
        count = then.0;
        turn = subst (λ n. InTurn n (nexts_of line) then.0) here then.1;
        within = omega (arith, turns_rise then.0 (all_nexts rest) (length states) then.2, is.count);
      }

  -- what its lines decide
  abbrev Decided : ℕ → ℕ × ℕ → Type 0
  Decided x v = (v.1 < length is.order) × IsLeast g entries (entry_of_state entries is.order (length before)) x v.0 (get_or is.order v.1 0)

  decided : (line : List Line) → states ≡ before ++ line ∷ rest → (x : ℕ) → x < 2 ^ other_width g → HasValue (Decided x) (decision line x)
  decided line e x lx =
      let t = next_turn line e in
      value_of (Decided x) line x
      (decides_within (λ l. l.next < length is.order) (λ l. IsLeast g entries (entry_of_state entries is.order (length before)) x l.own (get_or is.order l.next 0)) line x (below t)
      (subst (λ ls. IsSomeAnd (choice ls x) (λ l. IsLeast g entries (entry_of_state entries is.order (length before)) x l.own (get_or is.order l.next 0))) at (is.choices (length before) x within lx)))
    where
      within : length before < length states
      within = let size = ap (λ (ls : List (List Line)). length ls) e ∙ length-append before (line ∷ rest) in omega (arith, size)

      at : get_or states (length before) [] ≡ line
      at = ap (λ ls. get_or ls (length before) []) e ∙ get_or_at before line rest [] (length before) refl

      below : IsNextTurn a line is.order → All (λ l. l.next < length is.order) line
      below t i d l =
          let each = turns_below a (nexts_of line) t.count t.turn i 0 (omega (arith, l, length-map line (λ (l : Line). l.next))) in
          let same : get_or (nexts_of line) i 0 ≡ (get_or line i d).next = get_or-map (λ (l : Line). l.next) line i d 0 l in
          omega (arith, each, same, t.within)

  parts : (line : List Line) → states ≡ before ++ line ∷ rest → AreSplit (other_width g) line
  parts line e =
      let size = ap (λ (ls : List (List Line)). length ls) e ∙ length-append before (line ∷ rest) in
      subst (AreSplit (other_width g)) (ap (λ ls. get_or ls (length before) []) e ∙ get_or_at before line rest [] (length before) refl) (is.lines (length before) [] (omega (arith, size)))

-- lines with equal cubes, own parts and nexts
same_lines : (order others : List ℕ) (ls ms : List Line) → AllZip (λ l m. (l.when ≡ m.when) × ((l.own ≡ m.own) × (get_or order l.next 0 ≡ get_or others m.next 0))) ls ms → nexts_of ls ≡ nexts_of ms → ls ≡ ms
same_lines order others [] [] z e = refl
same_lines order others [] (m ∷ ms) z e = absurd z
same_lines order others (l ∷ ls) [] z e = absurd z
same_lines order others (l ∷ ls) (m ∷ ms) z e =
    let first : l.next ≡ m.next = ap (λ (ns : List ℕ). get_or ns 0 0) e in
    let rest : nexts_of ls ≡ nexts_of ms = ap (λ (ns : List ℕ). drop 1 ns) e in
    let line : l ≡ m = ap (λ c. record l { when = c }) z.0.0 ∙ ap (λ (o : ℕ). record { when = m.when; own = o; next = l.next }) z.0.1.0 ∙ ap (λ (n : ℕ). record { when = m.when; own = m.own; next = n }) first in
    ap (λ (k : Line). k ∷ ls) line ∙ ap (λ ks. m ∷ ks) (same_lines order others ls ms z.1 rest)

zip_nexts : (order others : List ℕ) (ls ms : List Line) → AllZip (λ l m. (l.when ≡ m.when) × ((l.own ≡ m.own) × (get_or order l.next 0 ≡ get_or others m.next 0))) ls ms
    → AllZip (λ n m. get_or order n 0 ≡ get_or others m 0) (nexts_of ls) (nexts_of ms)
zip_nexts order others [] [] z = tt
zip_nexts order others [] (m ∷ ms) z = absurd z
zip_nexts order others (l ∷ ls) [] z = absurd z
zip_nexts order others (l ∷ ls) (m ∷ ms) z = (z.0.1.1, zip_nexts order others ls ms z.1)

module _ (g : GameData) (entries : List (List ℤ)) (states others : List (List Line)) (is : IsMachineOfList g entries states) (also : IsMachineOfList g entries others) where
  abbrev Agrees : ℕ → Type 0
  Agrees count = Agree is.order also.order is.once also.once count

  -- the next state of both
  module _ (before ls ms : List (List Line)) (l m : List Line) (a : ℕ) (e : states ≡ before ++ l ∷ ls) (h : others ≡ before ++ m ∷ ms) (turn : InTurn 1 (all_nexts before) a) (agrees : Agrees a) where
    abbrev same_entry : entry_of_state entries is.order (length before) ≡ entry_of_state entries also.order (length before)
    same_entry = ap (λ i. get_or entries i []) (agrees (length before) (met_before g entries states is before ls a turn l e))

    related : (x : ℕ) (u v : ℕ × ℕ) → x < 2 ^ other_width g → decision l x ≡ Some u → decision m x ≡ Some v → (u.0 ≡ v.0) × (get_or is.order u.1 0 ≡ get_or also.order v.1 0)
    related x u v lx fu gv =
        let p = decided g entries states is before ls a turn l e x lx in
        let q = decided g entries others also before ms a turn m h x lx in
        let up : p.value ≡ u = same_Some p.value u (sym p.is ∙ fu) in
        let vq : q.value ≡ v = same_Some q.value v (sym q.is ∙ gv) in
        let r = least_one g entries (entry_of_state entries is.order (length before)) x p.value.0 (get_or is.order p.value.1 0) q.value.0 (get_or also.order q.value.1 0) p.has.1
        (subst (λ f. IsLeast g entries f x q.value.0 (get_or also.order q.value.1 0)) (sym same_entry) q.has.1) in
        (sym (ap (λ (w : ℕ × ℕ). w.0) up) ∙ r.0 ∙ ap (λ (w : ℕ × ℕ). w.0) vq, ap (λ (w : ℕ × ℕ). get_or is.order w.1 0) (sym up) ∙ r.1 ∙ ap (λ (w : ℕ × ℕ). get_or also.order w.1 0) vq)

    to : (x y : ℕ) → x < 2 ^ other_width g → y < 2 ^ other_width g → decision l x ≡ decision l y → decision m x ≡ decision m y
    to x y lx ly same =
        let p = decided g entries states is before ls a turn l e y ly in
        let q = decided g entries others also before ms a turn m h x lx in
        let r = decided g entries others also before ms a turn m h y ly in
        let first = related x p.value q.value lx (same ∙ p.is) q.is in
        let second = related y p.value r.value ly p.is r.is in
        let next : q.value.1 ≡ r.value.1 = also.once q.value.1 r.value.1 q.has.0 r.has.0 (sym first.1 ∙ second.1) in
        q.is ∙ ap (λ (o : ℕ). Some (o, q.value.1)) (sym first.0 ∙ second.0) ∙ ap (λ (n : ℕ). Some (r.value.0, n)) next ∙ sym r.is

    back : (x y : ℕ) → x < 2 ^ other_width g → y < 2 ^ other_width g → decision m x ≡ decision m y → decision l x ≡ decision l y
    back x y lx ly same =
        let p = decided g entries others also before ms a turn m h y ly in
        let q = decided g entries states is before ls a turn l e x lx in
        let r = decided g entries states is before ls a turn l e y ly in
        let first = related x q.value p.value lx q.is (same ∙ p.is) in
        let second = related y r.value p.value ly r.is p.is in
        let next : q.value.1 ≡ r.value.1 = is.once q.value.1 r.value.1 q.has.0 r.has.0 (first.1 ∙ sym second.1) in
        q.is ∙ ap (λ (o : ℕ). Some (o, q.value.1)) (first.0 ∙ sym second.0) ∙ ap (λ (n : ℕ). Some (r.value.0, n)) next ∙ sym r.is

    -- both have the same lines, and the entries of the states after it are the same
    same_next : (l ≡ m) × ((b : ℕ) × InTurn a (nexts_of l) b × Agrees b)
    same_next =
        let zip = one_splitting (other_width g) (decision l) (decision m) to back (λ u v. (u.0 ≡ v.0) × (get_or is.order u.1 0 ≡ get_or also.order v.1 0)) related 0 all_cube l
        (parts g entries states is before ls a turn l e) m (pow_pos 0, refl) (omega arith) (parts g entries others also before ms a turn m h) in
        let t = next_turn g entries states is before ls a turn l e in
        let u = next_turn g entries others also before ms a turn m h in
        let r = one_turn is.order also.order is.once also.once a (nexts_of l) (nexts_of m) t.count u.count t.turn u.turn t.within u.within (zip_nexts is.order also.order l m zip) agrees in
        (same_lines is.order also.order l m zip r.0, (t.count, t.turn, r.1))

  -- no state follows in the one where none does in the other
  none_more : (g : GameData) (states others : List (List Line)) (is : IsMachineOfList g entries states) (also : IsMachineOfList g entries others) (before : List (List Line)) (m : List Line) (ms : List (List Line)) (a : ℕ)
      → states ≡ before ++ [] → others ≡ before ++ m ∷ ms → InTurn 1 (all_nexts before) a → ⊥
  none_more g states others is also before m ms a e h turn =
      let same : states ≡ before = e ∙ append-nil before in
      let here : a ≡ length states = turns_end 1 (all_nexts before) a (length states) turn (subst (λ ls. InTurn 1 (all_nexts ls) (length states)) same is.breadth_first) in
      let size : length states ≡ length before = ap (λ (ls : List (List Line)). length ls) same in
      let less = met_before g entries others also before ms a turn m h in
      omega (arith, here, size, less)

  from : (before rest rest' : List (List Line)) (a : ℕ) → states ≡ before ++ rest → others ≡ before ++ rest' → InTurn 1 (all_nexts before) a → Agrees a → rest ≡ rest'
  from before [] [] a e h turn agrees = refl
  from before [] (m ∷ ms) a e h turn agrees = absurd (none_more g states others is also before m ms a e h turn)
  from before (l ∷ ls) [] a e h turn agrees = absurd (none_more g others states also is before l ls a h e turn)
  from before (l ∷ ls) (m ∷ ms) a e h turn agrees =
      let n = same_next before ls ms l m a e h turn agrees in
      let here : others ≡ before ++ l ∷ ms = subst (λ k. others ≡ before ++ k ∷ ms) (sym n.0) h in
      ap (λ k. k ∷ ls) n.0
      ∙ ap (λ ks. m ∷ ks) (from (before ++ l ∷ []) ls ms n.1.0 (e ∙ sym (append_assoc before (l ∷ []) ls)) (here ∙ sym (append_assoc before (l ∷ []) ms)) (states_turn 1 before a n.1.0 l turn n.1.1) n.1.2)

  one : states ≡ others
  one = from [] states others 1 refl refl refl first
    where
      first : Agrees 1
      first i l = let here : 0 ≡ i = omega arith in subst (λ k. get_or is.order k 0 ≡ get_or also.order k 0) here (same_Some _ _ (sym is.first ∙ also.first))

pub machine_is_one : MachineIsOne
machine_is_one g entries states others is also = one g entries states others is also
