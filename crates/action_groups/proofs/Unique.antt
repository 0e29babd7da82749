-- Two games of one automaton that are numbered by what has them first are alike.
use Rattle.std.proofs.Common.{◌≡◌, ℕ, zero, suc, ◌<◌, ◌≤◌, ◌^◌, ◌⊎◌, inl, inr, List, [], ◌∷◌, length, get_or, refl, sym, ap, ◌∙◌, subst, arith}
use Rattle.std.specs.List.{AllPairs}
use Rattle.std.proofs.lemmas.Bool.{cases_lt}
use Rattle.word_core.specs.declared.names.Kind.{Kind}
use Rattle.word_core.specs.declared.names.Kind.TheVariants.{First, Second}
use Rattle.word_core.specs.declared.names.Player.{Player}
use Rattle.word_core.specs.Machine as machine
use Rattle.word_core.specs.Automaton.{AutomatonData, edges_at}
use Rattle.word_core.proofs.TreeLabels.{label_of-all}
use Rattle.game_form.specs.Game.{GameData, IsGame, action_at, row_at, class_at, class_of, letter_of as game_letter, first_width, second_width, own_width, other_width, of_first, of_second}
use Rattle.game_form.specs.Vector.{number}
use Rattle.action_groups.specs.Grouped.{letter_at, answer, AreValuations, HasSameEdges, HasFirstLetter, AreOptionsAt, HasLeast, IsGrouped, HasSameSides, AreAlike}
use Rattle.action_groups.specs.Rows.{HasRows, edge_number}
use Rattle.word_core.specs.Play.{letter_of}

-- a numbering of some things by what has each number first, where the things stand in an order
module _ (X : Type 0) (In : X → Type 0) (at A : X → ℕ)
    (first : (x : X) → In x → (i : ℕ) → i ≤ A x → (y : X) × In y × (A y ≡ i) × ((z : X) → In z → at z < at y → A z < i))
    (same : (x y : X) → In x → In y → at x ≡ at y → A x ≡ A y) where
  -- something before has the number, or all before have smaller ones
  stands : (x : X) → In x → ((y : X) × In y × (at y < at x) × (A y ≡ A x)) ⊎ ((z : X) → In z → at z < at x → A z < A x)
  stands x v = go (cases_lt (at w.0) (at x)) (cases_lt (at x) (at w.0))
    where
      w : (y : X) × In y × (A y ≡ A x) × ((z : X) → In z → at z < at y → A z < A x)
      w = first x v (A x) (omega arith)

      go : (at w.0 < at x) ⊎ (at x ≤ at w.0) → (at x < at w.0) ⊎ (at w.0 ≤ at x) → ((y : X) × In y × (at y < at x) × (A y ≡ A x)) ⊎ ((z : X) → In z → at z < at x → A z < A x)
      go (inl l) c = inl (w.0, w.1, l, w.2)
      go (inr l) (inl m) = (let k : A x < A x = w.3 x v m in absurd (omega arith))
      go (inr l) (inr m) = inr (λ z vz lz. w.3 z vz (omega arith))

  -- a smaller number stands before
  smaller : (x : X) → In x → (i : ℕ) → i < A x → (y : X) × In y × (at y < at x) × (A y ≡ i)
  smaller x v i less = go (cases_lt (at w.0) (at x)) (cases_lt (at x) (at w.0))
    where
      w : (y : X) × In y × (A y ≡ i) × ((z : X) → In z → at z < at y → A z < i)
      w = first x v i (omega arith)

      go : (at w.0 < at x) ⊎ (at x ≤ at w.0) → (at x < at w.0) ⊎ (at w.0 ≤ at x) → (y : X) × In y × (at y < at x) × (A y ≡ i)
      go (inl l) c = (w.0, w.1, l, w.2)
      go (inr l) (inl m) = (let k : A x < i = w.3 x v m in absurd (omega arith))
      go (inr l) (inr m) = (let e : A x ≡ A w.0 = same x w.0 v w.1 (omega arith) in let f : A w.0 ≡ i = w.2 in absurd (omega arith))

-- two numberings that tell the same things apart are one
module _ (X : Type 0) (In : X → Type 0) (at A B : X → ℕ)
    (first_a : (x : X) → In x → (i : ℕ) → i ≤ A x → (y : X) × In y × (A y ≡ i) × ((z : X) → In z → at z < at y → A z < i))
    (first_b : (x : X) → In x → (i : ℕ) → i ≤ B x → (y : X) × In y × (B y ≡ i) × ((z : X) → In z → at z < at y → B z < i))
    (same_a : (x y : X) → In x → In y → at x ≡ at y → A x ≡ A y) (same_b : (x y : X) → In x → In y → at x ≡ at y → B x ≡ B y)
    (to_b : (x y : X) → In x → In y → A x ≡ A y → B x ≡ B y) (to_a : (x y : X) → In x → In y → B x ≡ B y → A x ≡ A y) where
  step : (x : X) → In x → ((z : X) → In z → at z < at x → A z ≡ B z) → A x ≡ B x
  step x v ih = go (stands X In at A first_a same_a x v) (stands X In at B first_b same_b x v)
    where
      level : ((z : X) → In z → at z < at x → A z < A x) → ((z : X) → In z → at z < at x → B z < B x) → (A x < B x) ⊎ (B x ≤ A x) → (B x < A x) ⊎ (A x ≤ B x) → A x ≡ B x
      level ba bb (inl l) c =
          let u = smaller X In at B first_b same_b x v (A x) l in
          let small : A u.0 < A x = ba u.0 u.1 u.2 in
          let same : A u.0 ≡ B u.0 = ih u.0 u.1 u.2 in
          let is : B u.0 ≡ A x = u.3 in
          absurd (omega arith)
      level ba bb (inr l) (inl m) =
          let u = smaller X In at A first_a same_a x v (B x) m in
          let small : B u.0 < B x = bb u.0 u.1 u.2 in
          let same : A u.0 ≡ B u.0 = ih u.0 u.1 u.2 in
          let is : A u.0 ≡ B x = u.3 in
          absurd (omega arith)
      level ba bb (inr l) (inr m) = omega arith

      go : ((y : X) × In y × (at y < at x) × (A y ≡ A x)) ⊎ ((z : X) → In z → at z < at x → A z < A x) → ((y : X) × In y × (at y < at x) × (B y ≡ B x)) ⊎ ((z : X) → In z → at z < at x → B z < B x) → A x ≡ B x
      go (inl w) c = sym w.3 ∙ ih w.0 w.1 w.2 ∙ to_b w.0 x w.1 v w.3
      go (inr ba) (inl w) =
          let e : A w.0 ≡ A x = to_a w.0 x w.1 v w.3 in
          let small : A w.0 < A x = ba w.0 w.1 w.2 in
          absurd (omega arith)
      go (inr ba) (inr bb) = level ba bb (cases_lt (A x) (B x)) (cases_lt (B x) (A x))

  agree_below : (n : ℕ) (x : X) → In x → at x < n → A x ≡ B x
  agree_below zero x v lt = absurd (omega arith)
  agree_below (suc n) x v lt = step x v (λ z vz lz. agree_below n z vz (omega arith))

  agree : (x : X) → In x → A x ≡ B x
  agree x v = agree_below (suc (at x)) x v (omega arith)

-- lists that ascend by their second parts and have the same members are one
abbrev Rises : List (ℕ × ℕ) → Type 0
Rises = AllPairs (λ o p. (o.1 < p.1) × (o.0 ≡ p.0 → ⊥))

abbrev Among : List (ℕ × ℕ) → ℕ × ℕ → Type 0
Among xs o = (i : ℕ) × (i < length xs) × (get_or xs i (0, 0) ≡ o)

rest_of : (x : ℕ × ℕ) (xs : List (ℕ × ℕ)) → Rises (x ∷ xs) → Rises xs
rest_of x xs up i j d lt inside = up (suc i) (suc j) d (omega arith) (omega arith)

least_first : (x : ℕ × ℕ) (xs : List (ℕ × ℕ)) → Rises (x ∷ xs) → (o : ℕ × ℕ) → Among (x ∷ xs) o → (x ≡ o) ⊎ ((x.1 < o.1) × Among xs o)
least_first x xs up o w = go w.0 w.1 w.2
  where
    go : (i : ℕ) → i < length (x ∷ xs) → get_or (x ∷ xs) i (0, 0) ≡ o → (x ≡ o) ⊎ ((x.1 < o.1) × Among xs o)
    go zero lt e = inl e
    go (suc i) lt e =
        let l : x.1 < (get_or xs i (0, 0)).1 = (up 0 (suc i) (0, 0) (omega arith) lt).0 in
        let s : (get_or xs i (0, 0)).1 ≡ o.1 = ap (λ (p : ℕ × ℕ). p.1) e in
        inr (omega arith, (i, omega arith, e))

same_members : (xs ys : List (ℕ × ℕ)) → Rises xs → Rises ys → ((o : ℕ × ℕ) → Among xs o → Among ys o) → ((o : ℕ × ℕ) → Among ys o → Among xs o) → xs ≡ ys
same_members [] [] u v to of = refl
same_members [] (y ∷ ys) u v to of = (let w = of y (0, omega arith, refl) in let lt : w.0 < 0 = w.1 in absurd (omega arith))
same_members (x ∷ xs) [] u v to of = (let w = to x (0, omega arith, refl) in let lt : w.0 < 0 = w.1 in absurd (omega arith))
same_members (x ∷ xs) (y ∷ ys) u v to of =
    ap (λ o. o ∷ xs) one ∙ ap (λ (l : List (ℕ × ℕ)). y ∷ l) (same_members xs ys (rest_of x xs u) (rest_of y ys v) forth back)
  where
    one : x ≡ y
    one = go (least_first y ys v x (to x (0, omega arith, refl))) (least_first x xs u y (of y (0, omega arith, refl)))
      where
        go : (y ≡ x) ⊎ ((y.1 < x.1) × Among ys x) → (x ≡ y) ⊎ ((x.1 < y.1) × Among xs y) → x ≡ y
        go (inl e) c = sym e
        go (inr a) (inl e) = e
        go (inr a) (inr b) = absurd (omega (arith, a.0, b.0))

    above : (z : ℕ × ℕ) (zs : List (ℕ × ℕ)) → Rises (z ∷ zs) → (o : ℕ × ℕ) → Among zs o → z.1 < o.1
    above z zs up o w = (let lt : w.0 < length zs = w.1 in let l : z.1 < (get_or zs w.0 (0, 0)).1 = (up 0 (suc w.0) (0, 0) (omega arith) (omega arith)).0 in let s : (get_or zs w.0 (0, 0)).1 ≡ o.1 = ap (λ (p : ℕ × ℕ). p.1) w.2 in omega arith)

    later : (z : ℕ × ℕ) (zs : List (ℕ × ℕ)) (o : ℕ × ℕ) → Among zs o → Among (z ∷ zs) o
    later z zs o w = (let lt : w.0 < length zs = w.1 in (suc w.0, omega arith, w.2))

    first_same : x.1 ≡ y.1
    first_same = ap (λ (p : ℕ × ℕ). p.1) one

    forth : (o : ℕ × ℕ) → Among xs o → Among ys o
    forth o w = go (above x xs u o w) (least_first y ys v o (to o (later x xs o w)))
      where
        go : x.1 < o.1 → (y ≡ o) ⊎ ((y.1 < o.1) × Among ys o) → Among ys o
        go l (inl e) = (let s : y.1 ≡ o.1 = ap (λ (p : ℕ × ℕ). p.1) e in absurd (omega (arith, first_same)))
        go l (inr a) = a.1

    back : (o : ℕ × ℕ) → Among ys o → Among xs o
    back o w = go (above y ys v o w) (least_first x xs u o (of o (later y ys o w)))
      where
        go : y.1 < o.1 → (x ≡ o) ⊎ ((x.1 < o.1) × Among xs o) → Among xs o
        go l (inl e) = (let s : x.1 ≡ o.1 = ap (λ (p : ℕ × ℕ). p.1) e in absurd (omega (arith, first_same)))
        go l (inr a) = a.1

-- what both sides of a letter are within
sides_in : (k : Kind) (n m f s : ℕ) → f < 2 ^ of_first k n m → s < 2 ^ of_second k n m → (of_first k f s < 2 ^ n) × (of_second k f s < 2 ^ m)
sides_in First n m f s a b = (a, b)
sides_in Second n m f s a b = (b, a)

edges_of : (a : AutomatonData) (g : GameData) → HasRows a g → (f s f' s' : ℕ) → AreValuations g f s → AreValuations g f' s' → answer g f s ≡ answer g f' s' → HasSameEdges a (letter_at g f s) (letter_at g f' s')
edges_of a g rows f s f' s' v v' e q p lt =
    let here = sides_in g.kind (own_width g) (other_width g) f s v.0 v.1 in
    let there = sides_in g.kind (own_width g) (other_width g) f' s' v'.0 v'.1 in
    sym (rows (of_first g.kind f s) (of_second g.kind f s) q p here.0 here.1 lt)
    ∙ ap (λ i. number (row_at (action_at g i) q) p) e
    ∙ rows (of_first g.kind f' s') (of_second g.kind f' s') q p there.0 there.1 lt

letters_same : (g h : GameData) → HasSameSides g h → (f s : ℕ) → letter_at g f s ≡ letter_at h f s
letters_same g h e f s =
    ap (λ p. letter_of p g.inputs (record { own = of_first g.kind f s; other = of_second g.kind f s })) e.player
    ∙ ap (λ n. letter_of h.player n (record { own = of_first g.kind f s; other = of_second g.kind f s })) e.inputs
    ∙ ap (λ k. letter_of h.player h.inputs (record { own = of_first k f s; other = of_second k f s })) e.kind

abbrev first_by : Player → Kind → ℕ → ℕ → ℕ
first_by p k n m = of_first k (machine.own_width p n m) (machine.other_width p n m)

abbrev second_by : Player → Kind → ℕ → ℕ → ℕ
second_by p k n m = of_second k (machine.own_width p n m) (machine.other_width p n m)

firsts_same : (g h : GameData) → HasSameSides g h → first_width g ≡ first_width h
firsts_same g h e =
    ap (λ p. first_by p g.kind g.inputs g.outputs) e.player ∙ ap (λ k. first_by h.player k g.inputs g.outputs) e.kind
    ∙ ap (λ n. first_by h.player h.kind n g.outputs) e.inputs ∙ ap (first_by h.player h.kind h.inputs) e.outputs

seconds_same : (g h : GameData) → HasSameSides g h → second_width g ≡ second_width h
seconds_same g h e =
    ap (λ p. second_by p g.kind g.inputs g.outputs) e.player ∙ ap (λ k. second_by h.player k g.inputs g.outputs) e.kind
    ∙ ap (λ n. second_by h.player h.kind n g.outputs) e.inputs ∙ ap (second_by h.player h.kind h.inputs) e.outputs

answer_below : (g : GameData) → IsGame g → (f s : ℕ) → answer g f s < length g.actions
answer_below g known f s = label_of-all (λ l. l < length g.actions) g.letters known.letters.tree known.letters.labels (game_letter g (of_first g.kind f s) (of_second g.kind f s))

class_below : (g : GameData) → IsGame g → (f : ℕ) → class_of g f < length g.classes
class_below g known f = label_of-all (λ l. l < length g.classes) g.firsts known.firsts.tree known.firsts.labels f

module _ (a : AutomatonData) (g h : GameData) (known_g : IsGame g) (known_h : IsGame h) (e : HasSameSides g h) (ga : IsGrouped a g) (ha : IsGrouped a h) where
  abbrev In : ℕ × ℕ → Type 0
  In x = AreValuations g x.0 x.1

  abbrev at : ℕ × ℕ → ℕ
  at x = letter_at g x.0 x.1

  abbrev A : ℕ × ℕ → ℕ
  A x = answer g x.0 x.1

  abbrev B : ℕ × ℕ → ℕ
  B x = answer h x.0 x.1

  to_h : (f s : ℕ) → AreValuations g f s → AreValuations h f s
  to_h f s v = (subst (λ w. f < 2 ^ w) (firsts_same g h e) v.0, subst (λ w. s < 2 ^ w) (seconds_same g h e) v.1)

  to_g : (f s : ℕ) → AreValuations h f s → AreValuations g f s
  to_g f s v = (subst (λ w. f < 2 ^ w) (sym (firsts_same g h e)) v.0, subst (λ w. s < 2 ^ w) (sym (seconds_same g h e)) v.1)

  first_g : (x : ℕ × ℕ) → In x → (i : ℕ) → i ≤ A x → (y : ℕ × ℕ) × In y × (A y ≡ i) × ((z : ℕ × ℕ) → In z → at z < at y → A z < i)
  first_g x v i le =
      let below : A x < length g.actions = answer_below g known_g x.0 x.1 in
      let w : HasFirstLetter g i = ga.actions i (omega arith) in
      ((w.first, w.second), w.within, w.has, λ z vz lz. w.before z.0 z.1 vz lz)

  first_h : (x : ℕ × ℕ) → In x → (i : ℕ) → i ≤ B x → (y : ℕ × ℕ) × In y × (B y ≡ i) × ((z : ℕ × ℕ) → In z → at z < at y → B z < i)
  first_h x v i le =
      let below : B x < length h.actions = answer_below h known_h x.0 x.1 in
      let w : HasFirstLetter h i = ha.actions i (omega arith) in (
        (w.first, w.second),
        to_g w.first w.second w.within,
        w.has,
        λ z vz lz. w.before z.0 z.1 (to_h z.0 z.1 vz) (subst (λ n. n < letter_at h w.first w.second) (letters_same g h e z.0 z.1) (subst (λ n. at z < n) (letters_same g h e w.first w.second) lz)),
      )

  edges_in_h : (x y : ℕ × ℕ) → HasSameEdges a (at x) (at y) → HasSameEdges a (letter_at h x.0 x.1) (letter_at h y.0 y.1)
  edges_in_h x y s = subst (λ n. HasSameEdges a n (letter_at h y.0 y.1)) (letters_same g h e x.0 x.1) (subst (HasSameEdges a (at x)) (letters_same g h e y.0 y.1) s)

  edges_in_g : (x y : ℕ × ℕ) → HasSameEdges a (letter_at h x.0 x.1) (letter_at h y.0 y.1) → HasSameEdges a (at x) (at y)
  edges_in_g x y s = subst (λ n. HasSameEdges a n (at y)) (sym (letters_same g h e x.0 x.1)) (subst (HasSameEdges a (letter_at h x.0 x.1)) (sym (letters_same g h e y.0 y.1)) s)

  edges_at_one : (x y : ℕ × ℕ) → at x ≡ at y → HasSameEdges a (at x) (at y)
  edges_at_one x y s q p lt = ap (λ n. edge_number (edges_at a q) n p) s

  answers_same : (f s : ℕ) → AreValuations g f s → answer g f s ≡ answer h f s
  answers_same f s v =
      agree (ℕ × ℕ) In at A B first_g first_h
      (λ x y vx vy s. ga.same_action x.0 x.1 y.0 y.1 vx vy (edges_at_one x y s))
      (λ x y vx vy s. ha.same_action x.0 x.1 y.0 y.1 (to_h x.0 x.1 vx) (to_h y.0 y.1 vy) (edges_in_h x y (edges_at_one x y s)))
      (λ x y vx vy s. ha.same_action x.0 x.1 y.0 y.1 (to_h x.0 x.1 vx) (to_h y.0 y.1 vy) (edges_in_h x y (edges_of a g ga.rows x.0 x.1 y.0 y.1 vx vy s)))
      (λ x y vx vy s. ga.same_action x.0 x.1 y.0 y.1 vx vy (edges_in_g x y (edges_of a h ha.rows x.0 x.1 y.0 y.1 (to_h x.0 x.1 vx) (to_h y.0 y.1 vy) s)))
      (f, s) v

  rows_same : (f s q p : ℕ) → AreValuations g f s → q < length a.states → number (row_at (action_at g (answer g f s)) q) p ≡ number (row_at (action_at h (answer h f s)) q) p
  rows_same f s q p v lt =
      let here = sides_in g.kind (own_width g) (other_width g) f s v.0 v.1 in
      let v' = to_h f s v in
      let there = sides_in h.kind (own_width h) (other_width h) f s v'.0 v'.1 in
      ga.rows (of_first g.kind f s) (of_second g.kind f s) q p here.0 here.1 lt
      ∙ ap (λ n. edge_number (edges_at a q) n p) (letters_same g h e f s)
      ∙ sym (ha.rows (of_first h.kind f s) (of_second h.kind f s) q p there.0 there.1 lt)

  -- each option of one list is one of the other
  member : (p q : GameData) (f : ℕ) (xs ys : List (ℕ × ℕ)) → AreOptionsAt p f xs → AreOptionsAt q f ys → ((s : ℕ) → s < 2 ^ second_width p → (s < 2 ^ second_width q) × (answer p f s ≡ answer q f s)) → ((s : ℕ) → s < 2 ^ second_width q → s < 2 ^ second_width p)
      → (o : ℕ × ℕ) → Among xs o → Among ys o
  member p q f xs ys hx hy same back o w =
      let here = subst (λ z. (z.1 < 2 ^ second_width p) × (answer p f z.1 ≡ z.0)) w.2 (hx.each w.0 (0, 0) w.1) in
      let across = same o.1 here.0 in
      let k = hy.least o.1 across.0 in
      let y : ℕ × ℕ = get_or ys k.0 (0, 0) in
      let action : y.0 ≡ o.0 = k.2 ∙ sym across.1 ∙ here.1 in
      let known = hy.each k.0 (0, 0) k.1 in
      let m = hx.least y.1 (back y.1 known.0) in
      let x : ℕ × ℕ = get_or xs m.0 (0, 0) in
      let own : answer p f y.1 ≡ o.0 = (same y.1 (back y.1 known.0)).1 ∙ known.1 ∙ action in
      let first : (get_or xs m.0 (0, 0)).0 ≡ (get_or xs w.0 (0, 0)).0 = m.2 ∙ own ∙ sym (ap (λ (z : ℕ × ℕ). z.0) w.2) in
      let place : m.0 ≡ w.0 = one_place xs hx.rising m.0 w.0 m.1 w.1 first in
      let value : x.1 ≡ o.1 = ap (λ j. (get_or xs j (0, 0)).1) place ∙ ap (λ (z : ℕ × ℕ). z.1) w.2 in
      let low : y.1 ≤ o.1 = k.3 in
      let high : x.1 ≤ y.1 = m.3 in
      let second : y.1 ≡ o.1 = omega arith in
      (k.0, k.1, ap (λ (n : ℕ). (n, y.1)) action ∙ ap (λ (n : ℕ). (o.0, n)) second)
    where
      one_place : (zs : List (ℕ × ℕ)) → Rises zs → (i j : ℕ) → i < length zs → j < length zs → (get_or zs i (0, 0)).0 ≡ (get_or zs j (0, 0)).0 → i ≡ j
      one_place zs up i j li lj s = go (cases_lt i j) (cases_lt j i)
        where
          go : (i < j) ⊎ (j ≤ i) → (j < i) ⊎ (i ≤ j) → i ≡ j
          go (inl l) c = absurd ((up i j (0, 0) l lj).1 s)
          go (inr l) (inl m) = absurd ((up j i (0, 0) m li).1 (sym s))
          go (inr l) (inr m) = omega arith

  options_same : (f : ℕ) → f < 2 ^ first_width g → (class_at g (class_of g f)).options ≡ (class_at h (class_of h f)).options
  options_same f lt =
      let wide = seconds_same g h e in
      let f_in : f < 2 ^ first_width h = subst (λ w. f < 2 ^ w) (firsts_same g h e) lt in
      let og : AreOptionsAt g f (class_at g (class_of g f)).options = ga.options f lt in
      let oh : AreOptionsAt h f (class_at h (class_of h f)).options = ha.options f f_in in
      let forth : (s : ℕ) → s < 2 ^ second_width g → s < 2 ^ second_width h = λ s l. subst (λ w. s < 2 ^ w) wide l in
      let back : (s : ℕ) → s < 2 ^ second_width h → s < 2 ^ second_width g = λ s l. subst (λ w. s < 2 ^ w) (sym wide) l in
      same_members (class_at g (class_of g f)).options (class_at h (class_of h f)).options og.rising oh.rising
      (member g h f (class_at g (class_of g f)).options (class_at h (class_of h f)).options og oh (λ s l. (forth s l, answers_same f s (lt, l))) back)
      (member h g f (class_at h (class_of h f)).options (class_at g (class_of g f)).options oh og (λ s l. (back s l, sym (answers_same f s (lt, back s l)))) forth)

  abbrev Within : ℕ → Type 0
  Within f = f < 2 ^ first_width g

  least_in : (k : GameData) → IsGame k → (place : ℕ) → place < length k.classes → (class_at k place).least < 2 ^ first_width k
  least_in k known place lt = (known.classes place lt).least

  classes_same : (f : ℕ) → f < 2 ^ first_width g → class_of g f ≡ class_of h f
  classes_same f lt =
      agree ℕ Within (λ x. x) (class_of g) (class_of h) first_class_g first_class_h
      (λ x y vx vy s. ap (class_of g) s) (λ x y vx vy s. ap (class_of h) s)
      (λ x y vx vy s. ha.same_class x y (wider x vx) (wider y vy) (sym (options_same x vx) ∙ ap (λ c. (class_at g c).options) s ∙ options_same y vy))
      (λ x y vx vy s. ga.same_class x y vx vy (options_same x vx ∙ ap (λ c. (class_at h c).options) s ∙ sym (options_same y vy)))
      f lt
    where
      wider : (x : ℕ) → Within x → x < 2 ^ first_width h
      wider x v = subst (λ w. x < 2 ^ w) (firsts_same g h e) v

      first_class_g : (x : ℕ) → Within x → (i : ℕ) → i ≤ class_of g x → (y : ℕ) × Within y × (class_of g y ≡ i) × ((z : ℕ) → Within z → z < y → class_of g z < i)
      first_class_g x v i le =
          let below : class_of g x < length g.classes = class_below g known_g x in
          let inside : i < length g.classes = omega arith in
          let w : HasLeast g i = ga.classes i inside in
          ((class_at g i).least, least_in g known_g i inside, w.has, λ z vz lz. w.before z lz)

      first_class_h : (x : ℕ) → Within x → (i : ℕ) → i ≤ class_of h x → (y : ℕ) × Within y × (class_of h y ≡ i) × ((z : ℕ) → Within z → z < y → class_of h z < i)
      first_class_h x v i le =
          let below : class_of h x < length h.classes = class_below h known_h x in
          let inside : i < length h.classes = omega arith in
          let w : HasLeast h i = ha.classes i inside in
          ((class_at h i).least, subst (λ n. (class_at h i).least < 2 ^ n) (sym (firsts_same g h e)) (least_in h known_h i inside), w.has, λ z vz lz. w.before z lz)

  -- as many actions and classes, with the same least valuations
  actions_long : length g.actions ≡ length h.actions
  actions_long = go (cases_lt (length g.actions) (length h.actions)) (cases_lt (length h.actions) (length g.actions))
    where
      go : (length g.actions < length h.actions) ⊎ (length h.actions ≤ length g.actions) → (length h.actions < length g.actions) ⊎ (length g.actions ≤ length h.actions) → length g.actions ≡ length h.actions
      go (inl l) c =
          let w : HasFirstLetter h (length g.actions) = ha.actions (length g.actions) l in
          let same : answer g w.first w.second ≡ answer h w.first w.second = answers_same w.first w.second (to_g w.first w.second w.within) in
          let is : answer h w.first w.second ≡ length g.actions = w.has in
          let below : answer g w.first w.second < length g.actions = answer_below g known_g w.first w.second in
          absurd (omega arith)
      go (inr l) (inl m) =
          let w : HasFirstLetter g (length h.actions) = ga.actions (length h.actions) m in
          let same : answer g w.first w.second ≡ answer h w.first w.second = answers_same w.first w.second w.within in
          let is : answer g w.first w.second ≡ length h.actions = w.has in
          let below : answer h w.first w.second < length h.actions = answer_below h known_h w.first w.second in
          absurd (omega arith)
      go (inr l) (inr m) = omega arith

  in_g : (place : ℕ) → place < length h.classes → (class_at h place).least < 2 ^ first_width g
  in_g place lt = subst (λ n. (class_at h place).least < 2 ^ n) (sym (firsts_same g h e)) (least_in h known_h place lt)

  classes_long : length g.classes ≡ length h.classes
  classes_long = go (cases_lt (length g.classes) (length h.classes)) (cases_lt (length h.classes) (length g.classes))
    where
      go : (length g.classes < length h.classes) ⊎ (length h.classes ≤ length g.classes) → (length h.classes < length g.classes) ⊎ (length g.classes ≤ length h.classes) → length g.classes ≡ length h.classes
      go (inl l) c =
          let f : ℕ = (class_at h (length g.classes)).least in
          let is : class_of h f ≡ length g.classes = (ha.classes (length g.classes) l).has in
          let same : class_of g f ≡ class_of h f = classes_same f (in_g (length g.classes) l) in
          let below : class_of g f < length g.classes = class_below g known_g f in
          absurd (omega arith)
      go (inr l) (inl m) =
          let f : ℕ = (class_at g (length h.classes)).least in
          let is : class_of g f ≡ length h.classes = (ga.classes (length h.classes) m).has in
          let same : class_of g f ≡ class_of h f = classes_same f (least_in g known_g (length h.classes) m) in
          let below : class_of h f < length h.classes = class_below h known_h f in
          absurd (omega arith)
      go (inr l) (inr m) = omega arith

  least_same : (place : ℕ) → place < length g.classes → (class_at g place).least ≡ (class_at h place).least
  least_same place lt = go (cases_lt (class_at g place).least (class_at h place).least) (cases_lt (class_at h place).least (class_at g place).least)
    where
      there : place < length h.classes
      there = omega (arith, classes_long)

      here : class_of g (class_at g place).least ≡ place
      here = (ga.classes place lt).has

      other : class_of h (class_at h place).least ≡ place
      other = (ha.classes place there).has

      go : ((class_at g place).least < (class_at h place).least) ⊎ ((class_at h place).least ≤ (class_at g place).least) → ((class_at h place).least < (class_at g place).least) ⊎ ((class_at g place).least ≤ (class_at h place).least) → (class_at g place).least ≡ (class_at h place).least
      go (inl l) c =
          let f : ℕ = (class_at g place).least in
          let low : class_of h f < place = (ha.classes place there).before f l in
          let same : class_of g f ≡ class_of h f = classes_same f (least_in g known_g place lt) in
          absurd (omega (arith, here))
      go (inr l) (inl m) =
          let f : ℕ = (class_at h place).least in
          let low : class_of g f < place = (ga.classes place lt).before f m in
          let same : class_of g f ≡ class_of h f = classes_same f (in_g place there) in
          absurd (omega (arith, other))
      go (inr l) (inr m) = omega arith

  pub alike : AreAlike a g h
  alike = record {
    actions = actions_long;
    answers = answers_same;
    rows = rows_same;
    classes = classes_long;
    class = classes_same;
    least = least_same;
    options = options_same;
  }
