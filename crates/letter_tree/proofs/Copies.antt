-- Copies of nodes: what one more of them leaves.
use Rattle.std.proofs.Common.{Bool, true, false, cond, ◌≡◌, ◌≢◌, ℕ, zero, suc, ◌+◌, ◌-◌, ◌/◌, ◌%◌, ◌^◌, ◌==◌, ◌<◌, ◌≤◌, List, [], ◌∷◌, ◌++◌, length, set, get_or, replicate, Option, Some, None, refl, sym, ap, ◌∙◌, subst, arith, length-append, append-nil, append_assoc, ◌⊎◌, inl, inr}
use Rattle.std.proofs.lemmas.Bool.{cases_lt, cases_eq}
use Rattle.std.proofs.lemmas.Option.{slice_get_within, slice_get-get_or}
use Rattle.std.proofs.lemmas.Nat.{shr-shr}
use Rattle.std.proofs.Math.ListN.{length-set}
use Rattle.std.specs.List.{slice_get}
use Rattle.word_core.specs.declared.branches.Branch.{Branch}
use Rattle.word_core.specs.declared.branches.Branch.TheVariants.{Leaf, Split}
use Rattle.word_core.specs.Tree.{label_at, side}
use Rattle.letter_tree.specs.Diagram.{IsFork, IsNode, IsDiagram, HasLeaf, AreDistinct, Visits, known, leaf, fork}
use Rattle.letter_tree.specs.Copy.{IsCopy, IsCopying, GoesOn, IsPut, IsReached}
use Rattle.letter_tree.proofs.Diagrams.{slice_get-front, slice_get-seam, IsDiagram-push, label_at-front, label_at-leaf, label_at-split}
use Rattle.letter_tree.proofs.Distinct.{Differ, places_differ, node_labels}

pub slice_get-set_same : {X : Type 0} (xs : List X) (i : ℕ) (v : X) → i < length xs → slice_get (set xs i v) i ≡ Some v
slice_get-set_same [] i v h = absurd (omega (arith, h))
slice_get-set_same (x ∷ xs) zero v h = refl
slice_get-set_same (x ∷ xs) (suc i) v h = slice_get-set_same xs i v (omega arith)

pub slice_get-set_other : {X : Type 0} (xs : List X) (i j : ℕ) (v : X) → j ≢ i → slice_get (set xs i v) j ≡ slice_get xs j
slice_get-set_other [] i j v h = refl
slice_get-set_other (x ∷ xs) zero zero v h = absurd (h refl)
slice_get-set_other (x ∷ xs) zero (suc j) v h = refl
slice_get-set_other (x ∷ xs) (suc i) zero v h = refl
slice_get-set_other (x ∷ xs) (suc i) (suc j) v h = slice_get-set_other xs i j v (λ e. h (ap suc e))

pub Some-same : {X : Type 0} {x y : X} → Some x ≡ Some y → x ≡ y
Some-same e = cc

pub IsCopy-grow : (nodes : List Branch) (w f : ℕ) (out ys : List Branch) (i place : ℕ) → IsDiagram (w - f) out → IsCopy nodes w f out i place → IsCopy nodes w f (out ++ ys) i place
IsCopy-grow nodes w f out ys i place d c = record {
  within = omega (arith, c.within, length-append out ys);
  top = rw (slice_get-front out ys place c.within) c.top;
  label = λ bits. label_at-front (w - f) out ys d place (bits / 2 ^ f) c.within ∙ c.label bits;
}

-- a place that is noted is another one
noted_apart : (places : List (Option ℕ)) (at i p : ℕ) → slice_get places at ≡ Some None → slice_get places i ≡ Some (Some p) → i ≢ at
noted_apart places at i p free e s =
    let e' : slice_get places at ≡ Some (Some p) = subst (λ k. slice_get places k ≡ Some (Some p)) s e in
    cc

-- one more copy
pub IsCopying-put : (nodes : List Branch) (w f : ℕ) (out : List Branch) (places : List (Option ℕ)) (at : ℕ) (n : Branch)
    → IsCopying nodes w f out places → slice_get places at ≡ Some None → at < length nodes → IsNode (w - f) out (length out) (Some n)
    → IsCopy nodes w f (out ++ n ∷ []) at (length out)
    → ((label : ℕ) → n ≡ Leaf label → HasLeaf nodes label)
    → IsCopying nodes w f (out ++ n ∷ []) (set places at (Some (length out)))
IsCopying-put nodes w f out places at n c free in_ here copy from = record {
  room = length-set places at (Some (length out)) ∙ c.room;
  diagram = IsDiagram-push (w - f) out n c.diagram here;
  copied = λ i place e. copied i place e (cases_eq i at);
  all = λ place h. all place h (cases_lt place (length out));
  single = λ i j place e1 e2. single i j place e1 e2 (cases_eq i at) (cases_eq j at);
  leaves = λ place label e. leaf place label e (cases_lt place (length out));
}
  where
    leaf : (place label : ℕ) → slice_get (out ++ n ∷ []) place ≡ Some (Leaf label) → (place < length out) ⊎ (length out ≤ place) → HasLeaf nodes label
    leaf place label e (inl h) = c.leaves place label (sym (slice_get-front out (n ∷ []) place h) ∙ e)
    leaf place label e (inr h) =
        let last : place ≡ length out = omega (arith, h, slice_get_within (out ++ n ∷ []) place (Leaf label) e, length-append out (n ∷ [])) in
        from label (Some-same (sym (slice_get-seam out n []) ∙ subst (λ p. slice_get (out ++ n ∷ []) p ≡ Some (Leaf label)) last e))

    noted : List (Option ℕ)
    noted = set places at (Some (length out))

    all : (place : ℕ) → place < length (out ++ n ∷ []) → (place < length out) ⊎ (length out ≤ place) → (i : ℕ) × (slice_get noted i ≡ Some (Some place))
    all place h (inl l) =
        let k = c.all place l in
        (k.0, slice_get-set_other places at k.0 (Some (length out)) (noted_apart places at k.0 place free k.1) ∙ k.1)
    all place h (inr l) =
        let last : length out ≡ place = omega (arith, h, l, length-append out (n ∷ [])) in
        (at, slice_get-set_same places at (Some (length out)) (omega (arith, in_, c.room)) ∙ ap (λ p. Some (Some p)) last)

    new : (place : ℕ) → slice_get noted at ≡ Some (Some place) → length out ≡ place
    new place e =
        Some-same (Some-same (sym (slice_get-set_same places at (Some (length out)) (omega (arith, in_, c.room))) ∙ e))

    old : (i place : ℕ) → i ≢ at → slice_get noted i ≡ Some (Some place) → slice_get places i ≡ Some (Some place)
    old i place ne e = sym (slice_get-set_other places at i (Some (length out)) ne) ∙ e

    copied : (i place : ℕ) → slice_get noted i ≡ Some (Some place) → (i ≡ at) ⊎ (i ≡ at → ⊥) → IsCopy nodes w f (out ++ n ∷ []) i place
    copied i place e (inl s) =
        let e' : slice_get noted at ≡ Some (Some place) = subst (λ k. slice_get noted k ≡ Some (Some place)) s e in
        subst (λ k. IsCopy nodes w f (out ++ n ∷ []) k place) (sym s)
        (subst (IsCopy nodes w f (out ++ n ∷ []) at) (new place e') copy)
    copied i place e (inr ne) = IsCopy-grow nodes w f out (n ∷ []) i place c.diagram (c.copied i place (old i place ne e))

    apart : (j place : ℕ) → length out ≡ place → slice_get places j ≡ Some (Some place) → ⊥
    apart j place e1 e2 = omega (arith, e1, (c.copied j place e2).within)

    single : (i j place : ℕ) → slice_get noted i ≡ Some (Some place) → slice_get noted j ≡ Some (Some place) → (i ≡ at) ⊎ (i ≡ at → ⊥) → (j ≡ at) ⊎ (j ≡ at → ⊥) → i ≡ j
    single i j place e1 e2 (inl s) (inl t) = s ∙ sym t
    single i j place e1 e2 (inl s) (inr t) =
        absurd (apart j place (new place (subst (λ k. slice_get noted k ≡ Some (Some place)) s e1)) (old j place t e2))
    single i j place e1 e2 (inr s) (inl t) =
        absurd (apart i place (new place (subst (λ k. slice_get noted k ≡ Some (Some place)) t e2)) (old i place s e1))
    single i j place e1 e2 (inr s) (inr t) = c.single i j place (old i place s e1) (old j place t e2)

pub IsNode-leaf : (w : ℕ) (out : List Branch) (l : ℕ) → IsNode w out (length out) (Some (Leaf l))
IsNode-leaf w out l = tt

-- the copy of a leaf
IsCopy-leaf : (nodes : List Branch) (w f : ℕ) (out : List Branch) (at l : ℕ) → slice_get nodes at ≡ Some (Leaf l) → f ≤ w → IsCopy nodes w f (out ++ Leaf l ∷ []) at (length out)
IsCopy-leaf nodes w f out at l e le = record {
  within = omega (arith, length-append out (Leaf l ∷ []));
  top = rw (slice_get-seam out (Leaf l) [], e) (omega arith);
  label = λ bits. label_at-leaf (out ++ Leaf l ∷ []) (length out) l (bits / 2 ^ f) (slice_get-seam out (Leaf l) []) ∙ sym (label_at-leaf nodes at l bits e);
}

-- the node that copies a split whose parts are copied
IsFork-copied : (nodes : List Branch) (w f : ℕ) (out : List Branch) (places : List (Option ℕ)) (at s lo hi zero' one' : ℕ)
    → IsCopying nodes w f out places → IsFork w nodes at s lo hi → f ≤ s
    → slice_get places lo ≡ Some (Some zero') → slice_get places hi ≡ Some (Some one')
    → IsFork (w - f) out (length out) (s - f) zero' one'
IsFork-copied nodes w f out places at s lo hi zero' one' c k le e1 e2 = record {
  signal_in = omega (arith, k.signal_in);
  low_earlier = (c.copied lo zero' e1).within;
  high_earlier = (c.copied hi one' e2).within;
  low_later = omega (arith, k.low_later, (c.copied lo zero' e1).top);
  high_later = omega (arith, k.high_later, (c.copied hi one' e2).top);
  differ = λ e. k.differ (c.single lo hi one' (subst (λ p. slice_get places lo ≡ Some (Some p)) e e1) e2);
}

-- a bit above the floor, in the whole valuation and in the part above the floor
bit_above : (bits f s : ℕ) → f ≤ s → bits / 2 ^ f / 2 ^ (s - f) % 2 ≡ bits / 2 ^ s % 2
bit_above bits f s le =
    let e : f + (s - f) ≡ s = omega arith in
    ap (λ n. n % 2) (shr-shr bits f (s - f) ∙ ap (λ n. bits / 2 ^ n) e)

side_above : (bits f s lo hi : ℕ) → f ≤ s → side (s - f) lo hi (bits / 2 ^ f) ≡ side s lo hi bits
side_above bits f s lo hi le = ap (λ b. cond (b == 1) hi lo) (bit_above bits f s le)

IsCopy-split : (nodes : List Branch) (w f : ℕ) (out : List Branch) (places : List (Option ℕ)) (at s lo hi zero' one' : ℕ)
    → IsCopying nodes w f out places → IsDiagram w nodes → slice_get nodes at ≡ Some (Split s lo hi) → f ≤ s
    → slice_get places lo ≡ Some (Some zero') → slice_get places hi ≡ Some (Some one')
    → IsDiagram (w - f) (out ++ Split (s - f) zero' one' ∷ [])
    → IsCopy nodes w f (out ++ Split (s - f) zero' one' ∷ []) at (length out)
IsCopy-split nodes w f out places at s lo hi zero' one' c d e le e1 e2 d' = record {
  within = omega (arith, length-append out (n ∷ []));
  top = rw (slice_get-seam out n [], e) (omega arith);
  label = λ bits.
      label_at-split (w - f) (out ++ n ∷ []) d' (length out) (s - f) zero' one' (bits / 2 ^ f) (slice_get-seam out n [])
      ∙ part bits (bits / 2 ^ f / 2 ^ (s - f) % 2 == 1)
      ∙ ap (λ p. label_at nodes p bits) (side_above bits f s lo hi le)
      ∙ sym (label_at-split w nodes d at s lo hi bits e);
}
  where
    n : Branch
    n = Split (s - f) zero' one'

    part : (bits : ℕ) (b : Bool) → label_at (out ++ n ∷ []) (cond b one' zero') (bits / 2 ^ f) ≡ label_at nodes (cond b hi lo) bits
    part bits true =
        label_at-front (w - f) out (n ∷ []) c.diagram one' (bits / 2 ^ f) (c.copied hi one' e2).within ∙ (c.copied hi one' e2).label bits
    part bits false =
        label_at-front (w - f) out (n ∷ []) c.diagram zero' (bits / 2 ^ f) (c.copied lo zero' e1).within ∙ (c.copied lo zero' e1).label bits

-- what a put of a leaf, or of a split with copied parts, leaves
pub IsCopying-leaf : (nodes : List Branch) (w f : ℕ) (out : List Branch) (places : List (Option ℕ)) (at l : ℕ) (out' : List Branch) (places' : List (Option ℕ)) (place : ℕ)
    → IsCopying nodes w f out places → slice_get places at ≡ Some None → slice_get nodes at ≡ Some (Leaf l) → f ≤ w
    → IsPut out places at (Leaf l) out' places' place → IsCopying nodes w f out' places'
IsCopying-leaf nodes w f out places at l out' places' place c free e le put =
    rw (put.nodes, put.noted)
    (IsCopying-put nodes w f out places at (Leaf l) c free (slice_get_within nodes at (Leaf l) e) tt (IsCopy-leaf nodes w f out at l e le) from)
  where
    from : (label : ℕ) → Leaf l ≡ Leaf label → HasLeaf nodes label
    from label same = (at, e ∙ ap Some same)

pub IsCopying-split : (nodes : List Branch) (w f : ℕ) (out : List Branch) (places : List (Option ℕ)) (at s lo hi zero' one' : ℕ) (out' : List Branch) (places' : List (Option ℕ)) (place : ℕ)
    → IsCopying nodes w f out places → slice_get places at ≡ Some None → IsDiagram w nodes → slice_get nodes at ≡ Some (Split s lo hi) → f ≤ s
    → slice_get places lo ≡ Some (Some zero') → slice_get places hi ≡ Some (Some one')
    → IsPut out places at (Split (s - f) zero' one') out' places' place → IsCopying nodes w f out' places'
IsCopying-split nodes w f out places at s lo hi zero' one' out' places' place c free d e le e1 e2 put =
    rw (put.nodes, put.noted)
    (IsCopying-put nodes w f out places at n c free (slice_get_within nodes at (Split s lo hi) e) here
    (IsCopy-split nodes w f out places at s lo hi zero' one' c d e le e1 e2 (IsDiagram-push (w - f) out n c.diagram here)) from)
  where
    n : Branch
    n = Split (s - f) zero' one'

    from : (label : ℕ) → n ≡ Leaf label → HasLeaf nodes label
    from label same = absurd (cc)

    k : IsFork w nodes at s lo hi
    k = subst (IsNode w nodes at) e (d.node at)

    here : IsFork (w - f) out (length out) (s - f) zero' one'
    here = IsFork-copied nodes w f out places at s lo hi zero' one' c k le e1 e2

-- the copies that stood before stay where they are
pub GoesOn-put : (out0 : List Branch) (places0 : List (Option ℕ)) (out : List Branch) (places : List (Option ℕ)) (at : ℕ) (n : Branch) (out' : List Branch) (places' : List (Option ℕ)) (place : ℕ)
    → GoesOn out0 places0 out places → slice_get places0 at ≡ Some None
    → IsPut out places at n out' places' place → GoesOn out0 places0 out' places'
GoesOn-put out0 places0 out places at n out' places' place g e put = record {
  added = g.added ++ n ∷ [];
  nodes = put.nodes ∙ ap (λ t. t ++ n ∷ []) g.nodes ∙ append_assoc out0 g.added (n ∷ []);
  kept = λ i p h. ap (λ t. slice_get t i) put.noted ∙ slice_get-set_other places at i (Some (length out)) (noted_apart places0 at i p e h) ∙ g.kept i p h;
}

pub GoesOn-same : (out : List Branch) (places : List (Option ℕ)) → GoesOn out places out places
GoesOn-same out places = record { added = []; nodes = sym (append-nil out); kept = λ i p h. h }

pub GoesOn-then : (o1 : List Branch) (p1 : List (Option ℕ)) (o2 : List Branch) (p2 : List (Option ℕ)) (o3 : List Branch) (p3 : List (Option ℕ)) → GoesOn o1 p1 o2 p2 → GoesOn o2 p2 o3 p3 → GoesOn o1 p1 o3 p3
GoesOn-then o1 p1 o2 p2 o3 p3 g h = record {
  added = g.added ++ h.added;
  nodes = h.nodes ∙ ap (λ t. t ++ h.added) g.nodes ∙ append_assoc o1 g.added h.added;
  kept = λ i p e. h.kept i p (g.kept i p e);
}

-- where the copy is noted
pub IsPut-noted : (out : List Branch) (places : List (Option ℕ)) (at : ℕ) (n : Branch) (out' : List Branch) (places' : List (Option ℕ)) (place : ℕ)
    → at < length places → IsPut out places at n out' places' place → slice_get places' at ≡ Some (Some place)
IsPut-noted out places at n out' places' place h put =
    ap (λ t. slice_get t at) put.noted ∙ slice_get-set_same places at (Some (length out)) h ∙ ap (λ p. Some (Some p)) (sym put.last)

pub read_at : {X : Type 0} (xs : List X) (i : ℕ) (d x : X) → i < length xs → get_or xs i d ≡ x → slice_get xs i ≡ Some x
read_at xs i d x h e = slice_get-get_or xs i d h ∙ ap Some e

pub not_Some : {X : Type 0} (o : Option X) → ((x : X) → o ≡ Some x → ⊥) → o ≡ None
not_Some None h = refl
not_Some (Some x) h = absurd (h x refl)

-- a put leaves later places as they are
pub IsPut-later : (out : List Branch) (places : List (Option ℕ)) (at : ℕ) (n : Branch) (out' : List Branch) (places' : List (Option ℕ)) (place : ℕ)
    → IsPut out places at n out' places' place → (i : ℕ) → at < i → slice_get places' i ≡ slice_get places i
IsPut-later out places at n out' places' place put i h = ap (λ t. slice_get t i) put.noted ∙ slice_get-set_other places at i (Some (length out)) (λ e. omega (arith, e, h))

pub later_then : (places0 : List (Option ℕ)) (out : List Branch) (places : List (Option ℕ)) (at : ℕ) (n : Branch) (out' : List Branch) (places' : List (Option ℕ)) (place : ℕ)
    → ((i : ℕ) → at < i → slice_get places i ≡ slice_get places0 i) → IsPut out places at n out' places' place → (i : ℕ) → at < i → slice_get places' i ≡ slice_get places0 i
later_then places0 out places at n out' places' place h put i lt = IsPut-later out places at n out' places' place put i lt ∙ h i lt

-- copies of distinct nodes are distinct
distinct_copies : (nodes : List Branch) (w f : ℕ) (out : List Branch) (places : List (Option ℕ)) → IsDiagram w nodes → AreDistinct nodes → IsCopying nodes w f out places → AreDistinct out
distinct_copies nodes w f out places d distinct c i j lt j_in e =
    differ.2 (sym ((c.copied p.0 i p.1).label differ.0) ∙ node_labels (w - f) out c.diagram i j (differ.0 / 2 ^ f) e ∙ (c.copied q.0 j q.1).label differ.0)
  where
    p : (k : ℕ) × (slice_get places k ≡ Some (Some i))
    p = c.all i (omega arith)

    q : (k : ℕ) × (slice_get places k ≡ Some (Some j))
    q = c.all j j_in

    apart : p.0 ≢ q.0
    apart s =
        let same : i ≡ j = Some-same (Some-same (sym p.1 ∙ ap (slice_get places) s ∙ q.1)) in
        omega (arith, same, lt)

    differ : Differ nodes p.0 nodes q.0 w
    differ =
        places_differ w nodes d distinct p.0 q.0 (omega (arith, slice_get_within places p.0 (Some i) p.1, c.room)) (omega (arith, slice_get_within places q.0 (Some j) q.1, c.room)) apart

-- the tree that a root's copy is the last node of
pub IsReached-copied : (nodes : List Branch) (w f root : ℕ) (out : List Branch) (places : List (Option ℕ)) (place : ℕ)
    → IsDiagram w nodes → AreDistinct nodes → IsCopying nodes w f out places → slice_get places root ≡ Some (Some place) → place + 1 ≡ length out → Visits out 0 place (length out) → IsReached nodes w f root out
IsReached-copied nodes w f root out places place d distinct c e last walk = record {
  rooted = record {
    some = omega arith;
    diagram = c.diagram;
    distinct = distinct_copies nodes w f out places d distinct c;
    visits = subst (λ p. Visits out 0 p (length out)) (sym at) walk;
  };
  label = λ bits. ap (λ p. label_at out p (bits / 2 ^ f)) at ∙ (c.copied root place e).label bits;
  leaves = c.leaves;
}
  where
    at : length out - 1 ≡ place
    at = omega arith

pub slice_get-replicate : {X : Type 0} (n : ℕ) (x : X) (i : ℕ) → i < n → slice_get (replicate n x) i ≡ Some x
slice_get-replicate zero x i h = absurd (omega (arith, h))
slice_get-replicate (suc n) x zero h = refl
slice_get-replicate (suc n) x (suc i) h = slice_get-replicate n x i (omega arith)

pub read_as : {X : Type 0} (xs : List X) (i : ℕ) (r x : X) → i < length xs → r ≡ get_or xs i r → r ≡ x → slice_get xs i ≡ Some x
read_as xs i r x h e f = slice_get-get_or xs i r h ∙ ap Some (sym e ∙ f)

-- a walk is the same in a longer list
visits_more : (nodes ys : List Branch) (from place upto : ℕ) → Visits nodes from place upto → Visits (nodes ++ ys) from place upto
visits_more nodes ys from place _ (known _ _ h) = known from place h
visits_more nodes ys _ place _ (leaf _ l e) = leaf place l (slice_get-front nodes ys place (slice_get_within nodes place (Leaf l) e) ∙ e)
visits_more nodes ys from place _ (fork _ middle _ s lo hi e v u) =
    fork from middle place s lo hi (slice_get-front nodes ys place (slice_get_within nodes place (Split s lo hi) e) ∙ e)
    (visits_more nodes ys from lo middle v) (visits_more nodes ys middle hi place u)

-- the node that was put is where the walk ends
put_at : (out : List Branch) (places : List (Option ℕ)) (at : ℕ) (n : Branch) (out' : List Branch) (places' : List (Option ℕ)) (place from : ℕ)
    → IsPut out places at n out' places' place → Visits out' from (length out) (length out + 1) → Visits out' from place (length out')
put_at out places at n out' places' place from put v =
    let size : length out + 1 ≡ length out' = sym (ap (λ t. length t) put.nodes ∙ length-append out (n ∷ [])) in
    subst (λ p. Visits out' from p (length out')) (sym put.last) (subst (Visits out' from (length out)) size v)

pub visits_leaf : (out : List Branch) (places : List (Option ℕ)) (at l : ℕ) (out' : List Branch) (places' : List (Option ℕ)) (place : ℕ)
    → IsPut out places at (Leaf l) out' places' place → Visits out' (length out) place (length out')
visits_leaf out places at l out' places' place put =
    put_at out places at (Leaf l) out' places' place (length out) put (leaf (length out) l (ap (λ t. slice_get t (length out)) put.nodes ∙ slice_get-seam out (Leaf l) []))

pub visits_split : (out0 out1 : List Branch) (places1 : List (Option ℕ)) (out2 : List Branch) (places2 : List (Option ℕ)) (at s zero' one' : ℕ) (out' : List Branch) (places' : List (Option ℕ)) (place : ℕ)
    → Visits out1 (length out0) zero' (length out1) → GoesOn out1 places1 out2 places2 → Visits out2 (length out1) one' (length out2)
    → IsPut out2 places2 at (Split s zero' one') out' places' place → Visits out' (length out0) place (length out')
visits_split out0 out1 places1 out2 places2 at s zero' one' out' places' place v g u put =
    let front : out' ≡ (out1 ++ g.added) ++ n ∷ [] = put.nodes ∙ ap (λ t. t ++ n ∷ []) g.nodes in
    let low : Visits out' (length out0) zero' (length out1) =
    subst (λ t. Visits t (length out0) zero' (length out1)) (sym front) (visits_more (out1 ++ g.added) (n ∷ []) (length out0) zero' (length out1) (visits_more out1 g.added (length out0) zero' (length out1) v)) in
    let high : Visits out' (length out1) one' (length out2) = subst (λ t. Visits t (length out1) one' (length out2)) (sym put.nodes) (visits_more out2 (n ∷ []) (length out1) one' (length out2) u) in
    put_at out2 places2 at n out' places' place (length out0) put
    (fork (length out0) (length out1) (length out2) s zero' one' (ap (λ t. slice_get t (length out2)) put.nodes ∙ slice_get-seam out2 n []) low high)
  where
    n : Branch
    n = Split s zero' one'
