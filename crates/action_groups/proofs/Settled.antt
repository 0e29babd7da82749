-- Edges where a signal is decided, each once.
use Rattle.std.proofs.Common.{◌≡◌, ℕ, zero, suc, ◌+◌, ◌-◌, ◌<◌, ◌≤◌, ◌⊎◌, inl, inr, Bool, true, false, cond, ◌&&◌, ◌||◌, List, [], ◌∷◌, ◌++◌, length, get_or, map, take, if◌then◌else◌, refl, sym, ap, ◌∙◌, subst, arith}
use Rattle.std.specs.Prelude.{nat_eq}
use Rattle.std.specs.Int.{bit_at, w64}
use Rattle.std.specs.List.{All, Contains, filter, list_any}
use Rattle.std.proofs.lemmas.Bool.{cases_lt, lt-ltb, le-ltb}
use Rattle.std.proofs.lemmas.List.{take_more, map-append}
use Rattle.std.proofs.lemmas.List.Elements.{All-push, All-weaker, Contains-append_left, Contains-append_right}
use Rattle.std.proofs.lemmas.Nat.Bits.{bit_at_clear_other}
use Rattle.indexmap.specs.IndexSet.{insert_key}
use Rattle.indexmap.proofs.CallerLemmas.{Contains-insert_key}
use Rattle.word_core.specs.declared.cubes.Cube.{Cube}
use Rattle.action_groups.specs.declared.orders.Order.{Order}
use Rattle.action_groups.specs.declared.ways.Way.{Way}
use Rattle.action_groups.specs.Numbers.{step_of, steps_number}
use Rattle.action_groups.specs.Tests.{allowing, allows, allows_from, signal_at, signal_of}
use Rattle.action_groups.specs.Thinned.{AllowSame, decided_way, without_bit}
use Rattle.action_groups.proofs.Thinned.{same_edges}

-- a key is put in where it isn't there, and the others stay
key_stays : (eq : Way → Way → Bool) (keys : List Way) (k w : Way) → Contains keys w → Contains (insert_key eq keys k) w
key_stays eq keys k w c = go (list_any (eq k) keys)
  where
    go : (b : Bool) → Contains (if b then keys else keys ++ k ∷ []) w
    go true = c
    go false = Contains-append_left keys (k ∷ []) w c

keys_all : (P : Way → Type 0) (eq : Way → Way → Bool) (keys : List Way) (k : Way) → All P keys → P k → All P (insert_key eq keys k)
keys_all P eq keys k h p = go (list_any (eq k) keys)
  where
    go : (b : Bool) → All P (if b then keys else keys ++ k ∷ [])
    go true = h
    go false = All-push P keys k h p

pub inserted_all : (P : Way → Type 0) (eq : Way → Way → Bool) (keys now : List Way) (k : Way) → now ≡ insert_key eq keys k → All P keys → P k → All P now
inserted_all P eq keys now k e h p = subst (All P) (sym e) (keys_all P eq keys k h p)

-- one more edge
pub inserted_more : (eq : Way → Way → Bool) (f : Way → Way) (ways keys now : List Way) (i : ℕ) (d : Way) → ((v w : Way) → eq v w ≡ true → v ≡ w) → i < length ways → now ≡ insert_key eq keys (f (get_or ways i d)) → All (Contains keys) (map f (take i ways)) → All (Contains now) (map f (take (i + 1) ways))
inserted_more eq f ways keys now i d same lt e h =
    let w : Way = get_or ways i d in
    let next : List Way = insert_key eq keys (f w) in
    let there : Contains next (f w) = Contains-insert_key eq same keys (f w) in
    let before : All (Contains next) (map f (take i ways)) = All-weaker (Contains keys) (Contains next) (λ v c. key_stays eq keys (f w) v c) (map f (take i ways)) h in
    let more : map f (take (i + 1) ways) ≡ map f (take i ways) ++ f w ∷ [] = ap (λ (l : List Way). map f l) (take_more ways i d lt) ∙ map-append f (take i ways) (w ∷ []) in
    subst (λ l. All (Contains l) (map f (take (i + 1) ways))) (sym e) (subst (All (Contains next)) (sym more) (All-push (Contains next) (map f (take i ways)) (f w) before there))

pub mapped_at : (f : Way → Way) (ways : List Way) (i : ℕ) (d : Way) → i < length ways → Contains (map f ways) (f (get_or ways i d))
mapped_at f [] i d lt = absurd (omega arith)
mapped_at f (w ∷ ways) zero d lt = (0, omega arith, refl)
mapped_at f (w ∷ ways) (suc i) d lt = Contains-append_right (f w ∷ []) (map f ways) (f (get_or ways i d)) (mapped_at f ways i d (omega arith))

early : (order : Order) (k : ℕ) → k < order.outputs → signal_at order.inputs order.outputs false k ≡ order.inputs + k
early order k lt = ap (λ t. cond t (order.inputs + k) (k - order.outputs)) (lt-ltb k order.outputs lt)

late : (order : Order) (k : ℕ) → order.outputs ≤ k → signal_at order.inputs order.outputs false k ≡ k - order.outputs
late order k le = ap (λ t. cond t (order.inputs + k) (k - order.outputs)) (le-ltb k order.outputs le)

-- signals of different places differ
other_signal : (order : Order) (place k : ℕ) → place < k → k < order.inputs + order.outputs → (signal_of order k ≡ signal_of order place → ⊥)
other_signal order place k lt within = go order.inputs_first
  where
    later : (k < order.outputs) ⊎ (order.outputs ≤ k) → (place < order.outputs) ⊎ (order.outputs ≤ place) → (signal_at order.inputs order.outputs false k ≡ signal_at order.inputs order.outputs false place → ⊥)
    later (inl a) (inl b) e =
        let at : order.inputs + k ≡ order.inputs + place = sym (early order k a) ∙ e ∙ early order place b in
        absurd (omega arith)
    later (inl a) (inr b) e = absurd (omega arith)
    later (inr a) (inl b) e =
        let at : k - order.outputs ≡ order.inputs + place = sym (late order k a) ∙ e ∙ early order place b in
        absurd (omega arith)
    later (inr a) (inr b) e =
        let at : k - order.outputs ≡ place - order.outputs = sym (late order k a) ∙ e ∙ late order place b in
        absurd (omega arith)

    go : (b : Bool) → (signal_at order.inputs order.outputs b k ≡ signal_at order.inputs order.outputs b place → ⊥)
    go true e = absurd (omega arith)
    go false e = later (cases_lt k order.outputs) (cases_lt place order.outputs) e

signal_small : (order : Order) (k : ℕ) → k < order.inputs + order.outputs → signal_of order k < 64
signal_small order k lt = go order.inputs_first
  where
    narrow : order.inputs + order.outputs ≤ 40
    narrow = order.narrow

    by : (k < order.outputs) ⊎ (order.outputs ≤ k) → signal_at order.inputs order.outputs false k < 64
    by (inl a) = subst (λ n. n < 64) (sym (early order k a)) (omega arith)
    by (inr a) = subst (λ n. n < 64) (sym (late order k a)) (omega arith)

    go : (b : Bool) → signal_at order.inputs order.outputs b k < 64
    go true = omega arith
    go false = by (cases_lt k order.outputs)

-- what a cube asks of another signal
allows_other : (c : Cube) (signal s bit : ℕ) → signal < 64 → s < 64 → (s ≡ signal → ⊥) → allows (record { care = without_bit signal c.care; want = without_bit signal c.want }) s bit ≡ allows c s bit
allows_other c signal s bit lt inside other =
    ap (λ n. nat_eq n 0 || nat_eq (bit_at (without_bit signal c.want) s) bit) (bit_at_clear_other w64 c.care signal lt s inside other)
    ∙ ap (λ n. nat_eq (bit_at c.care s) 0 || nat_eq n bit) (bit_at_clear_other w64 c.want signal lt s inside other)

allows_later : (order : Order) (place n k bits : ℕ) (c : Cube) → place < order.inputs + order.outputs → place < k → k + n ≡ order.inputs + order.outputs → allows_from order n k bits (record { care = without_bit (signal_of order place) c.care; want = without_bit (signal_of order place) c.want }) ≡ allows_from order n k bits c
allows_later order place zero k bits c within lt e = refl
allows_later order place (suc n) k bits c within lt e =
    let signal : ℕ = signal_of order place in
    let d : Cube = record { care = without_bit signal c.care; want = without_bit signal c.want } in
    let inside : k < order.inputs + order.outputs = omega arith in
    ap (λ b. b && allows_from order n (suc k) bits d) (allows_other c signal (signal_of order k) (bit_at bits k) (signal_small order place within) (signal_small order k inside) (other_signal order place k lt inside))
    ∙ ap (λ b. allows c (signal_of order k) (bit_at bits k) && b) (allows_later order place n (suc k) bits c within (omega arith) (omega arith))

allows_decided : (order : Order) (place bits : ℕ) (c : Cube) → place < order.inputs + order.outputs → allows_from order (order.inputs + order.outputs - (place + 1)) (place + 1) bits (record { care = without_bit (signal_of order place) c.care; want = without_bit (signal_of order place) c.want }) ≡ allows_from order (order.inputs + order.outputs - (place + 1)) (place + 1) bits c
allows_decided order place bits c within = allows_later order place (order.inputs + order.outputs - (place + 1)) (place + 1) bits c within (omega arith) (omega arith)

steps_filtered : (f g : Way → Bool) (d : Way → Way) (ws : List Way) → ((w : Way) → f (d w) ≡ g w) → ((w : Way) → step_of (d w) ≡ step_of w) → map step_of (filter f (map d ws)) ≡ map step_of (filter g ws)
steps_filtered f g d [] e s = refl
steps_filtered f g d (w ∷ ws) e s = ap (λ t. map step_of (cond t (d w ∷ filter f (map d ws)) (filter f (map d ws)))) (e w) ∙ both (steps_filtered f g d ws e s) (g w)
  where
    both : map step_of (filter f (map d ws)) ≡ map step_of (filter g ws) → (b : Bool) → map step_of (cond b (d w ∷ filter f (map d ws)) (filter f (map d ws))) ≡ map step_of (cond b (w ∷ filter g ws) (filter g ws))
    both rest true = ap (λ (x : ℕ × ℕ × Bool). x ∷ map step_of (filter f (map d ws))) (s w) ∙ ap (λ (l : List (ℕ × ℕ × Bool)). step_of w ∷ l) rest
    both rest false = rest

-- under the signals from the next place on the edges do the same
pub decided_same : (order : Order) (place : ℕ) (ways : List Way) → place < order.inputs + order.outputs → AllowSame order (place + 1) (map (decided_way (signal_of order place)) ways) ways
decided_same order place ways within bits q p =
    ap (λ (l : List (ℕ × ℕ × Bool)). steps_number l q p)
    (steps_filtered (λ w. allows_from order (order.inputs + order.outputs - (place + 1)) (place + 1) bits w.edge.cube) (λ w. allows_from order (order.inputs + order.outputs - (place + 1)) (place + 1) bits w.edge.cube) (decided_way (signal_of order place)) ways
    (λ w. allows_decided order place bits w.edge.cube within) (λ w. refl))

pub settled_same : (order : Order) (place signal : ℕ) (kept ways : List Way) → place < order.inputs + order.outputs → signal ≡ signal_of order place → All (Contains (map (decided_way signal) ways)) kept → All (Contains kept) (map (decided_way signal) ways) → AllowSame order (place + 1) kept ways
settled_same order place signal kept ways within e inside each bits q p =
    same_edges order (place + 1) kept (map (decided_way signal) ways) inside each bits q p
    ∙ ap (λ s. steps_number (map step_of (allowing order (place + 1) bits (map (decided_way s) ways))) q p) e
    ∙ decided_same order place ways within bits q p
