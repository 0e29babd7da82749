-- Runs of an automaton on plays of a machine, and paths of their product.
use Rattle.std.proofs.Common.{◌≡◌, ℕ, zero, suc, ◌+◌, ◌<◌, ◌≤◌, ◌^◌, Bool, true, false, cond, List, [], ◌∷◌, length, map, get_or, take, Option, Some, None, refl, sym, ap, subst, ◌∙◌, inl, inr, arith}
use Rattle.std.specs.Prelude.{slice_get, MatchOption, IsSomeAnd}
use Rattle.std.specs.List.{Contains}
use Rattle.std.proofs.lemmas.Nat.{shr_split, shr_high, mod_low}
use Rattle.std.proofs.lemmas.Option.{same_Some, slice_get-get_or, slice_get_within, get_or_from_slice_get}
use Rattle.std.proofs.lemmas.Bool.{cases_lt}
use Rattle.std.proofs.lemmas.List.{get_or_past}
use Rattle.std.proofs.lemmas.List.Elements.{All-contains}
use Rattle.word_core.specs.declared.automata.Edge.{Edge}
use Rattle.word_core.specs.declared.machines.Line.{Line}
use Rattle.word_core.specs.declared.names.Player.{Player}
use Rattle.word_core.specs.declared.names.Player.TheVariants.{System, Environment}
use Rattle.word_core.specs.Automaton.{AutomatonData}
use Rattle.word_core.specs.Cube.{holds}
use Rattle.word_core.specs.Machine.{MachineData, IsMachine, IsLine, choice, lines_at, own_width, other_width, own_of, other_of}
use Rattle.word_core.specs.Play.{Move, letter_of, move_of, IsPlayFrom}
use Rattle.word_core.specs.Run.{IsRunFrom, count, Keeps}
use Rattle.witness_check.specs.declared.products.Node.{Node}
use Rattle.witness_check.specs.declared.products.Arc.{Arc}
use Rattle.witness_check.specs.Levels.{arcs_at, mark_of, Path, start, step, AreWithin}
use Rattle.witness_check.specs.Product.{IsTaken, IsStep, IsArc, IsProduct}

-- the line that decides, from the first one that holds
choice_at : (lines : List Line) (i : ℕ) (l : Line) (x : ℕ) → slice_get lines i ≡ Some l → holds l.when x ≡ true → choice (take i lines) x ≡ None → choice lines x ≡ Some l
choice_at [] i l x s h n = absurd cc
choice_at (y ∷ ys) zero l x s h n =
    let e : y ≡ l = same_Some y l s in
    ap (λ b. cond b (Some y) (choice ys x)) (subst (λ z. holds z.when x ≡ true) (sym e) h) ∙ ap Some e
choice_at (y ∷ ys) (suc i) l x s h n = go (holds y.when x) refl (λ m. choice_at ys i l x s h m)
  where
    go : (b : Bool) → holds y.when x ≡ b → (choice (take i ys) x ≡ None → choice ys x ≡ Some l) → choice (y ∷ ys) x ≡ Some l
    go true e ih = (let k : choice (y ∷ take i ys) x ≡ Some y = ap (λ b. cond b (Some y) (choice (take i ys) x)) e in absurd cc)
    go false e ih = ap (λ b. cond b (Some y) (choice ys x)) e ∙ ih (sym (ap (λ b. cond b (Some y) (choice (take i ys) x)) e) ∙ n)

-- and where it stands
record Stands (lines : List Line) (l : Line) (x : ℕ) : Type 0 where
  number : ℕ
  at : slice_get lines number ≡ Some l
  held : holds l.when x ≡ true
  first : choice (take number lines) x ≡ None

choice_found : (lines : List Line) (l : Line) (x : ℕ) → choice lines x ≡ Some l → Stands lines l x
choice_found [] l x e = absurd cc
choice_found (y ∷ ys) l x e = go (holds y.when x) refl (λ m. choice_found ys l x m)
  where
    go : (b : Bool) → holds y.when x ≡ b → (choice ys x ≡ Some l → Stands ys l x) → Stands (y ∷ ys) l x
    go true h ih = (let s : y ≡ l = same_Some y l (sym (ap (λ b. cond b (Some y) (choice ys x)) h) ∙ e) in
        record { number = 0; at = ap Some s; held = subst (λ z. holds z.when x ≡ true) s h; first = refl })
    go false h ih = (let r = ih (sym (ap (λ b. cond b (Some y) (choice ys x)) h) ∙ e) in
        record { number = suc r.number; at = r.at; held = r.held; first = ap (λ b. cond b (Some y) (choice (take r.number ys) x)) h ∙ r.first })

-- letters and moves
pub letter_move : (p : Player) (inputs x : ℕ) → letter_of p inputs (move_of p inputs x) ≡ x
letter_move System inputs x = shr_split x inputs
letter_move Environment inputs x = shr_split x inputs

pub move_own : (p : Player) (inputs outputs own other : ℕ) → own < 2 ^ own_width p inputs outputs → other < 2 ^ other_width p inputs outputs → (move_of p inputs (letter_of p inputs (record { own = own; other = other }))).own ≡ own
move_own System inputs outputs own other l m = shr_high own inputs other m
move_own Environment inputs outputs own other l m = mod_low other inputs own l

pub move_other : (p : Player) (inputs outputs own other : ℕ) → own < 2 ^ own_width p inputs outputs → other < 2 ^ other_width p inputs outputs → (move_of p inputs (letter_of p inputs (record { own = own; other = other }))).other ≡ other
move_other System inputs outputs own other l m = mod_low own inputs other m
move_other Environment inputs outputs own other l m = shr_high other inputs own l

-- paths from any node on
data PathFrom (A : List (List Arc)) : ℕ → ℕ → Type 0 where
  rest : {i : ℕ} → PathFrom A i 0
  on : {i c : ℕ} (arc : Arc) → Contains (arcs_at A i) arc → PathFrom A arc.to c → PathFrom A i (mark_of arc.marked + c)

module _ (A : List (List Arc)) where
  path_on : (c i d : ℕ) → Path A c i → PathFrom A i d → PathFrom A 0 (c + d)
  path_on c i d start q = let e : d ≡ 0 + d = omega arith in subst (PathFrom A 0) e q
  path_on c i d (step {c = b} {i = j} arc p h) q =
      let e : b + (mark_of arc.marked + d) ≡ mark_of arc.marked + b + d = omega arith in
      subst (PathFrom A 0) e (path_on b j (mark_of arc.marked + d) p (on arc h q))

  path_end : (i e : ℕ) → PathFrom A i e → (c : ℕ) → Path A c i → (j : ℕ) × Path A (c + e) j
  path_end i e rest c p = (i, (let z : c ≡ c + 0 = omega arith in subst (λ x. Path A x i) z p))
  path_end i e (on {c = b} arc h q) c p =
      let r = path_end arc.to b q (mark_of arc.marked + c) (step arc p h) in
      let z : mark_of arc.marked + c + b ≡ c + (mark_of arc.marked + b) = omega arith in
      (r.0, subst (λ x. Path A x r.0) z r.1)

-- a line that stands in a state is over the machine's widths
line_in : (m : MachineData) → IsMachine m → (s i : ℕ) (l : Line) → slice_get (lines_at m s) i ≡ Some l → IsLine (own_of m) (other_of m) (length m.states) l
line_in m w s i l e =
    elim (cases_lt s (length m.states)) [
      | inl lt ↦ subst (IsLine (own_of m) (other_of m) (length m.states)) (get_or_from_slice_get (lines_at m s) i l l e) (w.ranged s [] lt i l (slice_get_within (lines_at m s) i l e))
      | inr ge ↦ (let n : lines_at m s ≡ [] = get_or_past m.states s [] ge in
          let z : slice_get [] i ≡ Some l = subst (λ ls. slice_get ls i ≡ Some l) n e in
          absurd cc)
    ]

module _ (a : AutomatonData) (m : MachineData) (init : ℕ) (keys : List Node) (A : List (List Arc)) (p : IsProduct a m init keys A) where
  abbrev moves : List ℕ → List Move
  moves letters = map (move_of m.player m.inputs) letters

  -- a step onwards: the letter that a taken edge holds
  play_step : IsMachine m → (s number : ℕ) (l : Line) (x : ℕ) (vs : List Move) → slice_get (lines_at m s) number ≡ Some l → x < 2 ^ other_of m → holds l.when x ≡ true → choice (take number (lines_at m s)) x ≡ None → IsPlayFrom m l.next vs → IsPlayFrom m s (move_of m.player m.inputs (letter_of m.player m.inputs (record { own = l.own; other = x })) ∷ vs)
  play_step w s number l x vs stands below held first play =
      let v = line_in m w s number l stands in
      let own = move_own m.player m.inputs m.outputs l.own x v.1 below in
      let other = move_other m.player m.inputs m.outputs l.own x v.1 below in
      let decides : choice (lines_at m s) (move_of m.player m.inputs (letter_of m.player m.inputs (record { own = l.own; other = x }))).other ≡ Some l = ap (choice (lines_at m s)) other ∙ choice_at (lines_at m s) number l x stands held first in (
        subst (λ y. y < 2 ^ other_of m) (sym other) below,
        subst (λ o. MatchOption o ⊥ (λ y. ((move_of m.player m.inputs (letter_of m.player m.inputs (record { own = l.own; other = x }))).own ≡ y.own) × IsPlayFrom m y.next vs)) (sym decides) (own, play),
      )

  -- a path is a run on a play
  to_run : IsMachine m → (i e : ℕ) → PathFrom A i e → (n : Node) → slice_get keys i ≡ Some n → (letters : List ℕ) × (edges : List Edge) × IsPlayFrom m n.state (moves letters) × IsRunFrom a n.place letters edges × (count edges ≡ e)
  to_run w i e rest n s = ([], [], tt, tt, refl)
  to_run w i e (on {c = b} arc h q) n s =
      let x = All-contains (IsArc a m keys n) (arcs_at A i) arc (p.each i n s).sound h in
      let st = x.2 in
      let r = to_run w arc.to b q x.0 x.1 in
      let t = st.taken in
      let play = subst (λ (k : Node). IsPlayFrom m k.state (moves r.0)) st.ends r.2 in
      let run = subst (λ (k : Node). IsRunFrom a k.place r.0 r.1) st.ends r.3 in (
        letter_of m.player m.inputs (record { own = st.line.own; other = t.0 }) ∷ r.0,
        st.edge ∷ r.1,
        play_step w n.state st.number st.line t.0 (moves r.0) st.stands t.1 t.2 t.3 play,
        (st.leaves, t.4, run),
        ap (λ y. mark_of st.edge.marked + y) r.4 ∙ ap (λ y. mark_of y + b) (sym st.mark),
      )

  -- a run on a play is a path
  from_run : (letters : List ℕ) (edges : List Edge) (i : ℕ) (n : Node) → slice_get keys i ≡ Some n → IsPlayFrom m n.state (moves letters) → IsRunFrom a n.place letters edges → PathFrom A i (count edges)
  from_run [] [] i n s play run = rest
  from_run [] (e ∷ es) i n s play run = absurd run
  from_run (x ∷ xs) [] i n s play run = absurd run
  from_run (x ∷ xs) (e ∷ es) i n s play run =
      go (choice (lines_at m n.state) (move_of m.player m.inputs x).other) refl play.1 (λ j k t f r. from_run xs es j k t f r)
    where
      go : (o : Option Line) → choice (lines_at m n.state) (move_of m.player m.inputs x).other ≡ o → MatchOption o ⊥ (λ l. ((move_of m.player m.inputs x).own ≡ l.own) × IsPlayFrom m l.next (moves xs)) → ((j : ℕ) (k : Node) → slice_get keys j ≡ Some k → IsPlayFrom m k.state (moves xs) → IsRunFrom a k.place xs es → PathFrom A j (count es)) → PathFrom A i (count (e ∷ es))
      go None c f ih = absurd f
      go (Some l) c f ih =
          let st = choice_found (lines_at m n.state) l (move_of m.player m.inputs x).other c in
          let back : letter_of m.player m.inputs (record { own = l.own; other = (move_of m.player m.inputs x).other }) ≡ x = ap (λ y. letter_of m.player m.inputs (record { own = y; other = (move_of m.player m.inputs x).other })) (sym f.0) ∙ letter_move m.player m.inputs x in
          let t : IsTaken m e l (take st.number (lines_at m n.state)) = ((move_of m.player m.inputs x).other, play.0, st.held, st.first, subst (λ y. holds e.cube y ≡ true) (sym back) run.1) in
          let sp : IsStep a m n (record { state = l.next; place = e.next }) e.marked = record { number = st.number; line = l; edge = e; stands = st.at; leaves = run.0; taken = t; ends = refl; mark = refl } in
          let has = (p.each i n s).whole (record { state = l.next; place = e.next }) e.marked sp in
          let q = ih has.0.to (record { state = l.next; place = e.next }) has.2 f.1 run.2 in
          subst (λ y. PathFrom A i (mark_of y + count es)) has.3 (on has.0 has.1 q)

  -- every run has a count of at most k where no path has more marks
  pub keeps_if : a.init ≡ Some init → (k : ℕ) → ((d j : ℕ) → Path A d j → d ≤ k) → Keeps a m k
  keeps_if e k few letters edges play run =
      let r = subst (λ o. IsSomeAnd o (λ q. IsRunFrom a q letters edges)) e run in
      let q = from_run letters edges 0 (record { state = 0; place = init }) p.first play r in
      let end = path_end A 0 (count edges) q 0 start in
      let b = few (0 + count edges) end.0 end.1 in
      omega arith

  -- a path with more marks is a run with a greater count
  pub not_keeps : IsMachine m → a.init ≡ Some init → (k d i : ℕ) → Path A d i → k < d → Keeps a m k → ⊥
  not_keeps w e k d i q l keeps =
      let r = to_run w 0 (d + 0) (path_on A d i 0 q rest) (record { state = 0; place = init }) p.first in
      let run = subst (λ o. IsSomeAnd o (λ y. IsRunFrom a y r.0 r.1)) (sym e) r.3 in
      let b = keeps r.0 r.1 r.2 run in
      omega (arith, r.4)

  -- arcs lead to nodes
  pub product_within : AreWithin A
  product_within i arc h =
      elim (cases_lt i (length A)) [
        | inl lt ↦ (let at : i < length keys = omega (arith, p.counted) in
            let n = get_or keys i (record { state = 0; place = 0 }) in
            let x = All-contains (IsArc a m keys n) (arcs_at A i) arc (p.each i n (slice_get-get_or keys i (record { state = 0; place = 0 }) at)).sound h in
            omega (arith, p.counted, slice_get_within keys arc.to x.0 x.1))
        | inr ge ↦ (let none : arcs_at A i ≡ [] = get_or_past A i [] ge in omega (arith, ap length none, h.1))
      ]

  pub product_some : 0 < length A
  product_some = omega (arith, p.counted, slice_get_within keys 0 (record { state = 0; place = init }) p.first)
