-- Nodes that stop at a signal, and nodes with other labels.
use Rattle.std.proofs.Common.{Bool, true, false, cond, ltb, ◌≡◌, ◌≢◌, ℕ, zero, suc, ◌+◌, ◌-◌, ◌/◌, ◌%◌, ◌^◌, ◌==◌, ◌<◌, ◌≤◌, List, [], ◌∷◌, ◌++◌, length, get_or, map, take, Option, Some, None, refl, sym, ap, ◌∙◌, subst, arith}
use Rattle.std.proofs.lemmas.Bool.Decides.{Decides-ltb, nat_tests}
use Rattle.std.proofs.lemmas.List.{take_more, take_all, length-take-le, length-map}
use Rattle.std.proofs.lemmas.Option.{slice_get_within, slice_get-get_or, slice_get-map}
use Rattle.std.proofs.Math.Nat.{div-one}
use Rattle.std.specs.List.{slice_get, All}
use Rattle.std.specs.Option.{option_map}
use Rattle.word_core.specs.declared.branches.Branch.{Branch}
use Rattle.word_core.specs.declared.branches.Branch.TheVariants.{Leaf, Split}
use Rattle.word_core.specs.Tree.{label_at, label_of, LabelHas, AllLabels}
use Rattle.letter_tree.specs.Diagram.{top, IsFork, IsNode, IsDiagram, IsRooted, HasLeaf, AreDistinct, Visits, known, leaf, fork}
use Rattle.letter_tree.specs.Copy.{IsReached}
use Rattle.letter_tree.specs.Cut.{stopped, all_stopped, relabelled, IsEnd, IsFront}
use Rattle.letter_tree.proofs.Copies.{Some-same}
use Rattle.letter_tree.proofs.Diagrams.{label_at-leaf, label_at-split}
use Rattle.letter_tree.proofs.Joints.{fork_at}

length-all_stopped : (w p : ℕ) (ns : List Branch) → length (all_stopped w p ns) ≡ length ns
length-all_stopped w p [] = refl
length-all_stopped w p (n ∷ ns) = ap suc (length-all_stopped w (p + 1) ns)

slice_get-all_stopped : (w p : ℕ) (ns : List Branch) (i : ℕ) → slice_get (all_stopped w p ns) i ≡ option_map (stopped w (p + i)) (slice_get ns i)
slice_get-all_stopped w p [] i = refl
slice_get-all_stopped w p (n ∷ ns) zero =
    let e : p ≡ p + 0 = omega arith in
    ap (λ q. Some (stopped w q n)) e
slice_get-all_stopped w p (n ∷ ns) (suc i) =
    let e : p + 1 + i ≡ p + suc i = omega arith in
    slice_get-all_stopped w (p + 1) ns i ∙ ap (λ q. option_map (stopped w q) (slice_get ns i)) e

all_stopped-push : (w p : ℕ) (ns : List Branch) (n : Branch) → all_stopped w p (ns ++ n ∷ []) ≡ all_stopped w p ns ++ stopped w (p + length ns) n ∷ []
all_stopped-push w p [] n =
    let e : p ≡ p + 0 = omega arith in
    ap (λ q. stopped w q n ∷ []) e
all_stopped-push w p (m ∷ ns) n =
    let e : p + 1 + length ns ≡ p + suc (length ns) = omega arith in
    ap (λ t. stopped w p m ∷ t) (all_stopped-push w (p + 1) ns n ∙ ap (λ q. all_stopped w (p + 1) ns ++ stopped w q n ∷ []) e)

pub all_stopped-more : (w : ℕ) (ns : List Branch) (i : ℕ) (d : Branch) (old new : List Branch) (n : Branch) → i < length ns → old ≡ all_stopped w 0 (take i ns) → new ≡ old ++ n ∷ [] → n ≡ stopped w i (get_or ns i d)
    → new ≡ all_stopped w 0 (take (i + 1) ns)
all_stopped-more w ns i d old new n h e f g =
    let count : 0 + length (take i ns) ≡ i = omega (arith, length-take-le i ns) in
    f ∙ ap (λ t. t ++ n ∷ []) e ∙ ap (λ m. all_stopped w 0 (take i ns) ++ m ∷ []) (g ∙ ap (λ q. stopped w q (get_or ns i d)) (sym count))
    ∙ sym (all_stopped-push w 0 (take i ns) (get_or ns i d)) ∙ ap (all_stopped w 0) (sym (take_more ns i d h))

-- a stopped node tests no earlier signal than the node
stopped_top : (whole w s p : ℕ) (n : Branch) → s < w → s < top whole (Some n) → s < top w (Some (stopped w p n))
stopped_top whole w s p (Leaf l) h k = h
stopped_top whole w s p (Split s' lo hi) h k = go (ltb s' w)
  where
    go : (b : Bool) → s < top w (Some (cond b (Split s' lo hi) (Leaf p)))
    go true = k
    go false = h

part_top : (whole w s : ℕ) (nodes : List Branch) (p : ℕ) (o : Option Branch) → slice_get nodes p ≡ o → s < w → s < top whole o → s < top w (slice_get (all_stopped w 0 nodes) p)
part_top whole w s nodes p None e h k = subst (λ o. s < top w o) (sym (slice_get-all_stopped w 0 nodes p ∙ ap (option_map (stopped w (0 + p))) e)) h
part_top whole w s nodes p (Some n) e h k =
    subst (λ o. s < top w o) (sym (slice_get-all_stopped w 0 nodes p ∙ ap (option_map (stopped w (0 + p))) e)) (stopped_top whole w s (0 + p) n h k)

pub stopped_diagram : (whole w : ℕ) (nodes : List Branch) → IsDiagram whole nodes → w ≤ whole → IsDiagram w (all_stopped w 0 nodes)
stopped_diagram whole w nodes d le = record {
  narrow = omega (arith, d.narrow);
  node = λ place. subst (IsNode w (all_stopped w 0 nodes) place) (sym (slice_get-all_stopped w 0 nodes place)) (go place (slice_get nodes place) (d.node place));
}
  where
    go : (place : ℕ) (o : Option Branch) → IsNode whole nodes place o → IsNode w (all_stopped w 0 nodes) place (option_map (stopped w (0 + place)) o)
    go place None k = tt
    go place (Some (Leaf l)) k = tt
    go place (Some (Split s lo hi)) k = by_test (ltb s w) refl
      where
        by_test : (b : Bool) → ltb s w ≡ b → IsNode w (all_stopped w 0 nodes) place (Some (cond b (Split s lo hi) (Leaf (0 + place))))
        by_test false e = tt
        by_test true e =
            let less : s < w = (Decides-ltb s w).0 e in
            record {
              signal_in = less;
              low_earlier = k.low_earlier;
              high_earlier = k.high_earlier;
              low_later = part_top whole w s nodes lo (slice_get nodes lo) refl less k.low_later;
              high_later = part_top whole w s nodes hi (slice_get nodes hi) refl less k.high_later;
              differ = k.differ;
            }

-- a stopped leaf is the end of the first signals
stopped_end : (whole w p l : ℕ) (n : Branch) → w ≤ whole → stopped w p n ≡ Leaf l → (l ≡ p) × (w ≤ top whole (Some n))
stopped_end whole w p l (Leaf l') le e = (cc, le)
stopped_end whole w p l (Split s lo hi) le e = go (ltb s w) refl e
  where
    go : (b : Bool) → ltb s w ≡ b → cond b (Split s lo hi) (Leaf p) ≡ Leaf l → (l ≡ p) × (w ≤ s)
    go true t e' = absurd (cc)
    go false t e' = (cc, not_less t)
      where
        not_less : ltb s w ≡ false → w ≤ s
        not_less f = grind (arith, nat_tests)

end_at : (whole w : ℕ) (nodes : List Branch) (place l : ℕ) (o : Option Branch) → slice_get nodes place ≡ o → w ≤ whole → option_map (stopped w (0 + place)) o ≡ Some (Leaf l) → IsEnd nodes whole w l
end_at whole w nodes place l None e le h = absurd (cc)
end_at whole w nodes place l (Some n) e le h =
    let k = stopped_end whole w (0 + place) l n le (Some-same h) in
    let same : l ≡ place = omega (arith, k.0) in
    record {
      within = omega (arith, same, slice_get_within nodes place n e);
      above = subst (λ q. w ≤ top whole (slice_get nodes q)) (sym same) (subst (λ o. w ≤ top whole o) (sym e) k.1);
    }

-- from where a stopped walk ends the label is the node's
ends_right : (whole w : ℕ) (nodes : List Branch) → IsDiagram whole nodes → w ≤ whole → (n place bits : ℕ) → place < n → place < length nodes → label_at nodes (label_at (all_stopped w 0 nodes) place bits) bits ≡ label_at nodes place bits
ends_right whole w nodes d le zero place bits h i = absurd (omega (arith, h))
ends_right whole w nodes d le (suc n) place bits h i =
    go (slice_get nodes place) refl (λ q a b. ends_right whole w nodes d le n q bits (omega arith) b)
  where
    at : (o : Option Branch) → slice_get nodes place ≡ o → slice_get (all_stopped w 0 nodes) place ≡ option_map (stopped w (0 + place)) o
    at o e = slice_get-all_stopped w 0 nodes place ∙ ap (option_map (stopped w (0 + place))) e

    leaf : slice_get (all_stopped w 0 nodes) place ≡ Some (Leaf (0 + place)) → label_at nodes (label_at (all_stopped w 0 nodes) place bits) bits ≡ label_at nodes place bits
    leaf e =
        let z : 0 + place ≡ place = omega arith in
        ap (λ l. label_at nodes l bits) (label_at-leaf (all_stopped w 0 nodes) place (0 + place) bits e ∙ z)

    go : (o : Option Branch) → slice_get nodes place ≡ o → ((q : ℕ) → q < place → q < length nodes → label_at nodes (label_at (all_stopped w 0 nodes) q bits) bits ≡ label_at nodes q bits)
        → label_at nodes (label_at (all_stopped w 0 nodes) place bits) bits ≡ label_at nodes place bits
    go None e ih = let g = slice_get-get_or nodes place (Leaf 0) i in absurd (cc)
    go (Some (Leaf l)) e ih = leaf (at (Some (Leaf l)) e)
    go (Some (Split s lo hi)) e ih = by_test (ltb s w) (at (Some (Split s lo hi)) e)
      where
        k : IsFork whole nodes place s lo hi
        k = fork_at whole nodes place s lo hi d e

        part : (v : Bool) → label_at nodes (label_at (all_stopped w 0 nodes) (cond v hi lo) bits) bits ≡ label_at nodes (cond v hi lo) bits
        part true = ih hi k.high_earlier (omega (arith, k.high_earlier, i))
        part false = ih lo k.low_earlier (omega (arith, k.low_earlier, i))

        by_test : (b : Bool) → slice_get (all_stopped w 0 nodes) place ≡ Some (cond b (Split s lo hi) (Leaf (0 + place))) → label_at nodes (label_at (all_stopped w 0 nodes) place bits) bits ≡ label_at nodes place bits
        by_test false f = leaf f
        by_test true f =
            ap (λ l. label_at nodes l bits) (label_at-split w (all_stopped w 0 nodes) (stopped_diagram whole w nodes d le) place s lo hi bits f)
            ∙ part (bits / 2 ^ s % 2 == 1) ∙ sym (label_at-split whole nodes d place s lo hi bits e)

-- stopped nodes differ as the nodes do
stopped_apart : (w p q : ℕ) (m n : Branch) → p ≢ q → m ≢ n → stopped w p m ≡ stopped w q n → ⊥
stopped_apart w p q (Leaf l) (Leaf l') ne d e = ne (cc)
stopped_apart w p q (Leaf l) (Split s lo hi) ne d e = go (ltb s w) e
  where
    go : (b : Bool) → Leaf p ≡ cond b (Split s lo hi) (Leaf q) → ⊥
    go true h = absurd (cc)
    go false h = ne (cc)
stopped_apart w p q (Split s lo hi) (Leaf l) ne d e = go (ltb s w) e
  where
    go : (b : Bool) → cond b (Split s lo hi) (Leaf p) ≡ Leaf q → ⊥
    go true h = absurd (cc)
    go false h = ne (cc)
stopped_apart w p q (Split s lo hi) (Split s' lo' hi') ne d e = go (ltb s w) (ltb s' w) e
  where
    go : (b c : Bool) → cond b (Split s lo hi) (Leaf p) ≡ cond c (Split s' lo' hi') (Leaf q) → ⊥
    go true true h = d h
    go true false h = absurd (cc)
    go false true h = absurd (cc)
    go false false h = ne (cc)

pub stopped_distinct : (w : ℕ) (nodes : List Branch) → AreDistinct nodes → AreDistinct (all_stopped w 0 nodes)
stopped_distinct w nodes distinct i j lt j_in e =
    let size : length (all_stopped w 0 nodes) ≡ length nodes = length-all_stopped w 0 nodes in
    let j_in' : j < length nodes = omega (arith, j_in, size) in
    let i_in' : i < length nodes = omega arith in
    let x : slice_get nodes i ≡ Some (get_or nodes i (Leaf 0)) = slice_get-get_or nodes i (Leaf 0) i_in' in
    let y : slice_get nodes j ≡ Some (get_or nodes j (Leaf 0)) = slice_get-get_or nodes j (Leaf 0) j_in' in
    let here : Some (stopped w (0 + i) (get_or nodes i (Leaf 0))) ≡ Some (stopped w (0 + j) (get_or nodes j (Leaf 0))) =
    sym (slice_get-all_stopped w 0 nodes i ∙ ap (option_map (stopped w (0 + i))) x) ∙ e ∙ slice_get-all_stopped w 0 nodes j ∙ ap (option_map (stopped w (0 + j))) y in
    stopped_apart w (0 + i) (0 + j) (get_or nodes i (Leaf 0)) (get_or nodes j (Leaf 0)) (λ s. omega (arith, s, lt))
    (λ s. distinct i j lt j_in' (x ∙ ap (λ n. Some n) s ∙ sym y)) (Some-same here)

-- no signals are taken away
pub rooted_whole : (w : ℕ) (nodes : List Branch) → IsRooted (w - 0) nodes → IsRooted w nodes
rooted_whole w nodes r = (let same : w - 0 ≡ w = omega arith in subst (λ v. IsRooted v nodes) same r)

pub IsFront-reached : (whole w root : ℕ) (nodes all out : List Branch) → IsRooted whole nodes → w ≤ whole → all ≡ all_stopped w 0 nodes → root ≡ length nodes - 1 → IsReached all w 0 root out → IsFront nodes whole w out
IsFront-reached whole w root nodes all out r le e f k = record {
  rooted = rooted_whole w out k.rooted;
  ends = λ place l h. ends l (k.leaves place l h);
  label = λ bits.
      ap (λ b. label_at nodes (label_of out b) bits) (sym (div-one bits)) ∙ ap (λ l. label_at nodes l bits) (k.label bits)
      ∙ ap (λ t. label_at nodes (label_at t root bits) bits) e
      ∙ ends_right whole w nodes r.diagram le (suc root) root bits (omega arith) (omega (arith, f, r.some)) ∙ ap (λ q. label_at nodes q bits) f;
}
  where
    ends : (l : ℕ) → HasLeaf all l → IsEnd nodes whole w l
    ends l h = end_at whole w nodes h.0 l (slice_get nodes h.0) refl le (sym (slice_get-all_stopped w 0 nodes h.0) ∙ ap (λ t. slice_get t h.0) (sym e) ∙ h.1)

-- other labels leave the splits as they are
relabelled_top : (w : ℕ) (numbers : List ℕ) (o : Option Branch) → top w (option_map (relabelled numbers) o) ≡ top w o
relabelled_top w numbers None = refl
relabelled_top w numbers (Some (Leaf l)) = refl
relabelled_top w numbers (Some (Split s lo hi)) = refl

relabelled_diagram : (w : ℕ) (numbers : List ℕ) (nodes : List Branch) → IsDiagram w nodes → IsDiagram w (map (relabelled numbers) nodes)
relabelled_diagram w numbers nodes d = record {
  narrow = d.narrow;
  node = λ place. subst (IsNode w (map (relabelled numbers) nodes) place) (sym (slice_get-map (relabelled numbers) nodes place)) (go place (slice_get nodes place) (d.node place));
}
  where
    later : (s p : ℕ) → s < top w (slice_get nodes p) → s < top w (slice_get (map (relabelled numbers) nodes) p)
    later s p h = omega (arith, h, ap (top w) (slice_get-map (relabelled numbers) nodes p), relabelled_top w numbers (slice_get nodes p))

    go : (place : ℕ) (o : Option Branch) → IsNode w nodes place o → IsNode w (map (relabelled numbers) nodes) place (option_map (relabelled numbers) o)
    go place None k = tt
    go place (Some (Leaf l)) k = tt
    go place (Some (Split s lo hi)) k = record {
      signal_in = k.signal_in;
      low_earlier = k.low_earlier;
      high_earlier = k.high_earlier;
      low_later = later s lo k.low_later;
      high_later = later s hi k.high_later;
      differ = k.differ;
    }

-- labels of leaves that get one number are one
abbrev pub AreApart : List ℕ → List Branch → Type 0
AreApart numbers nodes = (l m : ℕ) → HasLeaf nodes l → HasLeaf nodes m → get_or numbers l 0 ≡ get_or numbers m 0 → l ≡ m

relabelled_apart : (numbers : List ℕ) (nodes : List Branch) → AreApart numbers nodes → (i j : ℕ) (m n : Branch) → slice_get nodes i ≡ Some m → slice_get nodes j ≡ Some n → relabelled numbers m ≡ relabelled numbers n → m ≡ n
relabelled_apart numbers nodes h i j (Leaf l) (Leaf l') a b e = ap Leaf (h l l' (i, a) (j, b) (cc))
relabelled_apart numbers nodes h i j (Leaf l) (Split s lo hi) a b e = absurd (cc)
relabelled_apart numbers nodes h i j (Split s lo hi) (Leaf l) a b e = absurd (cc)
relabelled_apart numbers nodes h i j (Split s lo hi) (Split s' lo' hi') a b e = e

relabelled_distinct : (numbers : List ℕ) (nodes : List Branch) → AreDistinct nodes → AreApart numbers nodes → AreDistinct (map (relabelled numbers) nodes)
relabelled_distinct numbers nodes distinct h i j lt j_in e =
    let size : length (map (relabelled numbers) nodes) ≡ length nodes = length-map nodes (relabelled numbers) in
    let j_in' : j < length nodes = omega (arith, j_in, size) in
    let i_in' : i < length nodes = omega arith in
    let x : slice_get nodes i ≡ Some (get_or nodes i (Leaf 0)) = slice_get-get_or nodes i (Leaf 0) i_in' in
    let y : slice_get nodes j ≡ Some (get_or nodes j (Leaf 0)) = slice_get-get_or nodes j (Leaf 0) j_in' in
    let here : Some (relabelled numbers (get_or nodes i (Leaf 0))) ≡ Some (relabelled numbers (get_or nodes j (Leaf 0))) =
    sym (slice_get-map (relabelled numbers) nodes i ∙ ap (option_map (relabelled numbers)) x) ∙ e ∙ slice_get-map (relabelled numbers) nodes j ∙ ap (option_map (relabelled numbers)) y in
    let same : get_or nodes i (Leaf 0) ≡ get_or nodes j (Leaf 0) = relabelled_apart numbers nodes h i j _ _ x y (Some-same here) in
    distinct i j lt j_in' (x ∙ ap (λ n. Some n) same ∙ sym y)

relabelled_visits : (numbers : List ℕ) (nodes : List Branch) (from place upto : ℕ) → Visits nodes from place upto → Visits (map (relabelled numbers) nodes) from place upto
relabelled_visits numbers nodes from place _ (known _ _ h) = known from place h
relabelled_visits numbers nodes _ place _ (leaf _ l e) =
    leaf place (get_or numbers l 0) (slice_get-map (relabelled numbers) nodes place ∙ ap (option_map (relabelled numbers)) e)
relabelled_visits numbers nodes from place _ (fork _ middle _ s lo hi e v u) =
    fork from middle place s lo hi (slice_get-map (relabelled numbers) nodes place ∙ ap (option_map (relabelled numbers)) e)
    (relabelled_visits numbers nodes from lo middle v) (relabelled_visits numbers nodes middle hi place u)

pub relabelled_rooted : (w : ℕ) (numbers : List ℕ) (nodes : List Branch) → IsRooted w nodes → AreApart numbers nodes → IsRooted w (map (relabelled numbers) nodes)
relabelled_rooted w numbers nodes r h = record {
  some = omega (arith, r.some, size);
  diagram = relabelled_diagram w numbers nodes r.diagram;
  distinct = relabelled_distinct numbers nodes r.distinct h;
  visits = subst (λ n. Visits (map (relabelled numbers) nodes) 0 (n - 1) n) (sym size) (relabelled_visits numbers nodes 0 (length nodes - 1) (length nodes) r.visits);
}
  where
    size : length (map (relabelled numbers) nodes) ≡ length nodes
    size = length-map nodes (relabelled numbers)

pub relabelled_labels : (count : ℕ) (numbers : List ℕ) (nodes : List Branch) → ((i : ℕ) → get_or numbers i 0 < count) → AllLabels (λ l. l < count) (map (relabelled numbers) nodes)
relabelled_labels count numbers nodes h place =
    subst (LabelHas (λ l. l < count)) (sym (slice_get-map (relabelled numbers) nodes place)) (go (slice_get nodes place))
  where
    go : (o : Option Branch) → LabelHas (λ l. l < count) (option_map (relabelled numbers) o)
    go None = tt
    go (Some (Leaf l)) = h l
    go (Some (Split s lo hi)) = tt

-- ends, and labels below the number of nodes
pub ends_of : (whole w : ℕ) (nodes out : List Branch) (ends : List (ℕ × ℕ)) → IsFront nodes whole w out → All (λ (p : ℕ × ℕ). HasLeaf out p.1) ends → All (λ (p : ℕ × ℕ). IsEnd nodes whole w p.1) ends
ends_of whole w nodes out ends f a k d h = f.ends (a k d h).0 (get_or ends k d).1 (a k d h).1

pub ends_below : (whole w : ℕ) (nodes : List Branch) (ends : List (ℕ × ℕ)) → All (λ (p : ℕ × ℕ). IsEnd nodes whole w p.1) ends → All (λ (p : ℕ × ℕ). p.1 < length nodes) ends
ends_below whole w nodes ends a k d h = (a k d h).within

pub front_labels : (whole w : ℕ) (nodes out : List Branch) → IsFront nodes whole w out → AllLabels (λ l. l < length nodes) out
front_labels whole w nodes out f place = go (slice_get out place) refl
  where
    go : (o : Option Branch) → slice_get out place ≡ o → LabelHas (λ l. l < length nodes) o
    go None e = tt
    go (Some (Leaf l)) e = (f.ends place l e).within
    go (Some (Split s lo hi)) e = tt

pub all_stopped-all : (w i : ℕ) (ns old : List Branch) → length ns ≤ i → old ≡ all_stopped w 0 (take i ns) → old ≡ all_stopped w 0 ns
all_stopped-all w i ns old h e = e ∙ ap (all_stopped w 0) (take_all i ns h)

pub all_stopped-length : (w : ℕ) (ns old : List Branch) → old ≡ all_stopped w 0 ns → length old ≡ length ns
all_stopped-length w ns old e = ap (λ t. length t) e ∙ length-all_stopped w 0 ns

pub relabelled-all : (i : ℕ) (numbers : List ℕ) (ns old : List Branch) → length ns ≤ i → old ≡ map (relabelled numbers) (take i ns) → old ≡ map (relabelled numbers) ns
relabelled-all i numbers ns old h e = e ∙ ap (map (relabelled numbers)) (take_all i ns h)

-- other labels in the place of a tree's
relabelled_from : (w : ℕ) (numbers : List ℕ) (nodes : List Branch) → IsDiagram w nodes → IsDiagram w (map (relabelled numbers) nodes) → (n place bits : ℕ) → place < n → place < length nodes
    → label_at (map (relabelled numbers) nodes) place bits ≡ get_or numbers (label_at nodes place bits) 0
relabelled_from w numbers nodes d d' zero place bits h i = absurd (omega (arith, h))
relabelled_from w numbers nodes d d' (suc n) place bits h i = go (slice_get nodes place) refl (λ q a b. relabelled_from w numbers nodes d d' n q bits (omega arith) b)
  where
    at : (o : Option Branch) → slice_get nodes place ≡ o → slice_get (map (relabelled numbers) nodes) place ≡ option_map (relabelled numbers) o
    at o e = slice_get-map (relabelled numbers) nodes place ∙ ap (option_map (relabelled numbers)) e

    go : (o : Option Branch) → slice_get nodes place ≡ o → ((q : ℕ) → q < place → q < length nodes → label_at (map (relabelled numbers) nodes) q bits ≡ get_or numbers (label_at nodes q bits) 0)
        → label_at (map (relabelled numbers) nodes) place bits ≡ get_or numbers (label_at nodes place bits) 0
    go None e ih = let g = slice_get-get_or nodes place (Leaf 0) i in absurd (cc)
    go (Some (Leaf l)) e ih =
        label_at-leaf (map (relabelled numbers) nodes) place (get_or numbers l 0) bits (at (Some (Leaf l)) e)
        ∙ sym (ap (λ m. get_or numbers m 0) (label_at-leaf nodes place l bits e))
    go (Some (Split s lo hi)) e ih =
        label_at-split w (map (relabelled numbers) nodes) d' place s lo hi bits (at (Some (Split s lo hi)) e)
        ∙ part (bits / 2 ^ s % 2 == 1)
        ∙ sym (ap (λ m. get_or numbers m 0) (label_at-split w nodes d place s lo hi bits e))
      where
        k : IsFork w nodes place s lo hi
        k = fork_at w nodes place s lo hi d e

        part : (v : Bool) → label_at (map (relabelled numbers) nodes) (cond v hi lo) bits ≡ get_or numbers (label_at nodes (cond v hi lo) bits) 0
        part true = ih hi k.high_earlier (omega (arith, k.high_earlier, i))
        part false = ih lo k.low_earlier (omega (arith, k.low_earlier, i))

pub label_relabelled : (w : ℕ) (numbers : List ℕ) (nodes now : List Branch) → IsRooted w nodes → now ≡ map (relabelled numbers) nodes → (bits : ℕ) → label_of now bits ≡ get_or numbers (label_of nodes bits) 0
label_relabelled w numbers nodes now r e bits =
    let last : ℕ = length nodes - 1 in
    let size : length now ≡ length nodes = ap (λ (t : List Branch). length t) e ∙ length-map nodes (relabelled numbers) in
    ap (λ q. label_at now q bits) (ap (λ q. q - 1) size)
    ∙ ap (λ (t : List Branch). label_at t last bits) e
    ∙ relabelled_from w numbers nodes r.diagram (relabelled_diagram w numbers nodes r.diagram) (length nodes) last bits (omega (arith, r.some)) (omega (arith, r.some))
