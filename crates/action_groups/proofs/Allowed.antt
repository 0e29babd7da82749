-- The edges that allow the signals of a valuation, split by a signal.
use Rattle.std.proofs.Common.{◌≡◌, ℕ, suc, ◌+◌, ◌-◌, ◌<◌, ◌≤◌, Bool, true, false, cond, eqb, ◌&&◌, ◌||◌, List, [], ◌∷◌, length, get_or, map, ◌⊎◌, inl, inr, refl, sym, ap, ◌∙◌, arith}
use Rattle.std.specs.Prelude.{nat_eq, Vec}
use Rattle.std.specs.Int.{bit_at}
use Rattle.std.specs.List.{All, filter}
use Rattle.std.specs.declared.alloc.Global.{Global}
use Rattle.std.proofs.lemmas.Bool.{cases_eq}
use Rattle.std.proofs.lemmas.List.Elements.{All-tail}
use Rattle.std.proofs.lemmas.Nat.Bits.{bit_at-lt}
use Rattle.std.proofs.lemmas.Bool.Decides.{Decides-eqb}
use Rattle.word_core.specs.declared.cubes.Cube.{Cube}
use Rattle.action_groups.specs.declared.orders.Order.{Order}
use Rattle.action_groups.specs.declared.ways.Way.{Way}
use Rattle.action_groups.specs.Labels.{IsSplitOf}
use Rattle.action_groups.specs.Lists.{items_at, KeepsLists}
use Rattle.action_groups.specs.Numbers.{steps_number, step_of, HasSameNumbers}
use Rattle.action_groups.specs.Tests.{signal_of, allows, allows_from, allowing, HasEffects}
use Rattle.action_groups.proofs.Grown.{side_by}

filter_step : {X : Type 0} (b : Bool) (f : X → Bool) (x : X) (r s : List X) → filter f r ≡ s → filter f (cond b (x ∷ r) r) ≡ cond (b && f x) (x ∷ s) s
filter_step true f x r s e = ap (λ l. cond (f x) (x ∷ l) l) e
filter_step false f x r s e = e

filter_filter : {X : Type 0} (f g : X → Bool) (xs : List X) → filter f (filter g xs) ≡ filter (λ x. g x && f x) xs
filter_filter f g [] = refl
filter_filter f g (x ∷ xs) = filter_step (g x) f x (filter g xs) (filter (λ y. g y && f y) xs) (filter_filter f g xs)

pub filter_same : {X : Type 0} (f g : X → Bool) (xs : List X) → All (λ x. f x ≡ g x) xs → filter f xs ≡ filter g xs
filter_same f g [] h = refl
filter_same f g (x ∷ xs) h =
    ap (λ b. cond b (x ∷ filter f xs) (filter f xs)) (h 0 x (omega arith))
    ∙ ap (λ l. cond (g x) (x ∷ l) l) (filter_same f g xs (All-tail (λ y. f y ≡ g y) x xs h))

filter_all : {X : Type 0} (xs : List X) → filter (λ x. true) xs ≡ xs
filter_all [] = refl
filter_all (x ∷ xs) = ap (λ l. x ∷ l) (filter_all xs)

from_more : (order : Order) (n place next bits : ℕ) (c : Cube) → n ≡ suc (order.inputs + order.outputs - next) → next ≡ suc place → allows_from order n place bits c ≡ (allows c (signal_of order place) (bit_at bits place) && allows_from order (order.inputs + order.outputs - next) next bits c)
from_more order n place next bits c e f =
    ap (λ m. allows_from order m place bits c) e
    ∙ ap (λ k. allows c (signal_of order place) (bit_at bits place) && allows_from order (order.inputs + order.outputs - next) k bits c) (sym f)

-- a signal that no edge cares for
pub rest_effects : (order : Order) (place next : ℕ) (labels : ℕ → ℕ) (effects : List (Vec (ℕ × ℕ × Bool) Global)) (ways : List Way) → next ≡ place + 1 → place < order.inputs + order.outputs → All (λ w. bit_at w.edge.cube.care (signal_of order place) ≡ 0) ways → HasEffects order next labels effects ways → HasEffects order place labels effects ways
rest_effects order place next labels effects ways en lt free h bits q p =
    h bits q p ∙ ap (λ (l : List Way). steps_number (map step_of l) q p) (sym same)
  where
    one : (w : Way) → bit_at w.edge.cube.care (signal_of order place) ≡ 0 → allows_from order (order.inputs + order.outputs - place) place bits w.edge.cube ≡ allows_from order (order.inputs + order.outputs - next) next bits w.edge.cube
    one w e =
        let t : nat_eq (bit_at w.edge.cube.care (signal_of order place)) 0 ≡ true = ap (λ n. nat_eq n 0) e in
        from_more order (order.inputs + order.outputs - place) place next bits w.edge.cube (omega arith) (omega arith)
        ∙ ap (λ b. (b || nat_eq (bit_at w.edge.cube.want (signal_of order place)) (bit_at bits place)) && allows_from order (order.inputs + order.outputs - next) next bits w.edge.cube) t

    same : allowing order place bits ways ≡ allowing order next bits ways
    same = filter_same (λ w. allows_from order (order.inputs + order.outputs - place) place bits w.edge.cube) (λ w. allows_from order (order.inputs + order.outputs - next) next bits w.edge.cube) ways (λ k d inside. one (get_or ways k d) (free k d inside))

-- a signal with its two parts
pub split_effects : (order : Order) (place next : ℕ) (low high now : ℕ → ℕ) (before effects : List (Vec (ℕ × ℕ × Bool) Global)) (ways ls hs : List Way) → next ≡ place + 1 → place < order.inputs + order.outputs → IsSplitOf place low high now → ls ≡ filter (λ w. allows w.edge.cube (signal_of order place) 0) ways → hs ≡ filter (λ w. allows w.edge.cube (signal_of order place) 1) ways → ((bits : ℕ) → low bits < length before) → KeepsLists before effects → HasEffects order next low before ls → HasEffects order next high effects hs → HasEffects order place now effects ways
split_effects order place next low high now before effects ways ls hs en lt s el eh below keeps h k bits q p = go (eqb (bit_at bits place) 1) refl
  where
    one : (w : Way) (n : ℕ) → bit_at bits place ≡ n → (allows w.edge.cube (signal_of order place) n && allows_from order (order.inputs + order.outputs - next) next bits w.edge.cube) ≡ allows_from order (order.inputs + order.outputs - place) place bits w.edge.cube
    one w n eb =
        ap (λ m. allows w.edge.cube (signal_of order place) m && allows_from order (order.inputs + order.outputs - next) next bits w.edge.cube) (sym eb)
        ∙ sym (from_more order (order.inputs + order.outputs - place) place next bits w.edge.cube (omega arith) (omega arith))

    part : (n : ℕ) (ws : List Way) → bit_at bits place ≡ n → ws ≡ filter (λ w. allows w.edge.cube (signal_of order place) n) ways → allowing order next bits ws ≡ allowing order place bits ways
    part n ws eb ew =
        ap (allowing order next bits) ew
        ∙ filter_filter (λ w. allows_from order (order.inputs + order.outputs - next) next bits w.edge.cube) (λ w. allows w.edge.cube (signal_of order place) n) ways
        ∙ filter_same (λ w. allows w.edge.cube (signal_of order place) n && allows_from order (order.inputs + order.outputs - next) next bits w.edge.cube) (λ w. allows_from order (order.inputs + order.outputs - place) place bits w.edge.cube) ways
        (λ j d inside. one (get_or ways j d) n eb)

    off : eqb (bit_at bits place) 1 ≡ false → bit_at bits place ≡ 0
    off e = go (cases_eq (bit_at bits place) 1)
      where
        go : (bit_at bits place ≡ 1) ⊎ (bit_at bits place ≡ 1 → ⊥) → bit_at bits place ≡ 0
        go (inl f) = (let g : eqb (bit_at bits place) 1 ≡ true = (Decides-eqb (bit_at bits place) 1).1 f in absurd (cc))
        go (inr n) = (let l : bit_at bits place < 2 = bit_at-lt bits place in omega arith)

    go : (b : Bool) → eqb (bit_at bits place) 1 ≡ b → steps_number (items_at effects (now bits)) q p ≡ steps_number (map step_of (allowing order place bits ways)) q p
    go true e =
        ap (λ l. steps_number (items_at effects l) q p) (s bits ∙ side_by place (low bits) (high bits) bits true e)
        ∙ k bits q p
        ∙ ap (λ (ws : List Way). steps_number (map step_of ws) q p) (part 1 hs ((Decides-eqb (bit_at bits place) 1).0 e) eh)
    go false e =
        ap (λ l. steps_number (items_at effects l) q p) (s bits ∙ side_by place (low bits) (high bits) bits false e)
        ∙ ap (λ (l : List (ℕ × ℕ × Bool)). steps_number l q p) (keeps (low bits) (below bits))
        ∙ h bits q p
        ∙ ap (λ (ws : List Way). steps_number (map step_of ws) q p) (part 0 ls (off e) el)

-- all signals are decided
pub leaf_effects : (order : Order) (place label : ℕ) (labels : ℕ → ℕ) (effects : List (Vec (ℕ × ℕ × Bool) Global)) (ways : List Way) → order.inputs + order.outputs ≤ place → ((bits : ℕ) → labels bits ≡ label) → HasSameNumbers (items_at effects label) (map step_of ways) → HasEffects order place labels effects ways
leaf_effects order place label labels effects ways le leaf h bits q p =
    let none : order.inputs + order.outputs - place ≡ 0 = omega arith in
    let whole : allowing order place bits ways ≡ ways = ap (λ n. filter (λ w. allows_from order n place bits w.edge.cube) ways) none ∙ filter_all ways in
    ap (λ l. steps_number (items_at effects l) q p) (leaf bits)
    ∙ h q p
    ∙ sym (ap (λ (ws : List Way). steps_number (map step_of ws) q p) whole)
