-- The labels of pairs in the order in which they come.
use Rattle.std.proofs.Common.{Bool, true, false, cond, ◌≡◌, ◌≢◌, ℕ, zero, suc, ◌+◌, ◌<◌, ◌≤◌, ◌^◌, List, [], ◌∷◌, ◌++◌, length, get_or, take, refl, sym, ap, ◌∙◌, subst, arith, inl, inr, ◌⊎◌, append-nil, append_assoc, length-append}
use Rattle.std.specs.List.{All, AllPairs, Contains, list_any}
use Rattle.std.specs.Prelude.{nat_eq}
use Rattle.std.proofs.lemmas.Bool.{cases_lt}
use Rattle.std.proofs.lemmas.Bool.Decides.{Decides-eqb}
use Rattle.std.proofs.lemmas.List.{get_or_default, get_or_append_left, get_or_push, take_more}
use Rattle.std.proofs.lemmas.List.Elements.{All-push, Contains-append_left, Contains-append_right, Contains-get_or}
use Rattle.std.proofs.lemmas.List.Folds.{Any-from_list_any}
use Rattle.word_core.specs.declared.branches.Branch.{Branch}
use Rattle.word_core.specs.Tree.{label_of}
use Rattle.letter_tree.specs.Occurrence.{labels_from, labels_in, AreLeasts, AreLabels}

abbrev noted : List ℕ → ℕ → List ℕ
noted seen l = cond (list_any (nat_eq l) seen) seen (seen ++ l ∷ [])

from_push : (seen : List ℕ) (pairs : List (ℕ × ℕ)) (p : ℕ × ℕ) → labels_from seen (pairs ++ p ∷ []) ≡ noted (labels_from seen pairs) p.1
from_push seen [] p = refl
from_push seen (q ∷ pairs) p = from_push (noted seen q.1) pairs p

-- one more pair
pub labels_more : (pairs : List (ℕ × ℕ)) (i : ℕ) (d : ℕ × ℕ) (old new : List ℕ) (l : ℕ) → i < length pairs → old ≡ labels_in (take i pairs) → l ≡ (get_or pairs i d).1 → new ≡ noted old l → new ≡ labels_in (take (i + 1) pairs)
labels_more pairs i d old new l lt eo el en =
    en ∙ ap (λ s. noted s l) eo ∙ ap (noted (labels_in (take i pairs))) el ∙ sym (from_push [] (take i pairs) (get_or pairs i d)) ∙ sym (ap labels_in (take_more pairs i d lt))

-- what was seen stays in front
in_front : (seen : List ℕ) (pairs : List (ℕ × ℕ)) → (more : List ℕ) × (labels_from seen pairs ≡ seen ++ more)
in_front seen [] = ([], sym (append-nil seen))
in_front seen (p ∷ pairs) = go (list_any (nat_eq p.1) seen) (in_front seen pairs) (in_front (seen ++ p.1 ∷ []) pairs)
  where
    go : (b : Bool) → (more : List ℕ) × (labels_from seen pairs ≡ seen ++ more) → (more : List ℕ) × (labels_from (seen ++ p.1 ∷ []) pairs ≡ (seen ++ p.1 ∷ []) ++ more) → (more : List ℕ) × (labels_from (cond b seen (seen ++ p.1 ∷ [])) pairs ≡ seen ++ more)
    go true r t = r
    go false r t = (p.1 ∷ t.0, t.1 ∙ append_assoc seen (p.1 ∷ []) t.0)

kept_at : (seen : List ℕ) (pairs : List (ℕ × ℕ)) (i : ℕ) → i < length seen → get_or (labels_from seen pairs) i 0 ≡ get_or seen i 0
kept_at seen pairs i lt =
    let r = in_front seen pairs in
    ap (λ (l : List ℕ). get_or l i 0) r.1 ∙ get_or_append_left seen r.0 0 i lt

kept_in : (seen : List ℕ) (pairs : List (ℕ × ℕ)) (l : ℕ) → Contains seen l → Contains (labels_from seen pairs) l
kept_in seen pairs l c = (let r = in_front seen pairs in subst (λ (s : List ℕ). Contains s l) (sym r.1) (Contains-append_left seen r.0 l c))

-- a label that is noted stands among the seen ones
found : (seen : List ℕ) (l : ℕ) → list_any (nat_eq l) seen ≡ true → (i : ℕ) × (i < length seen) × (get_or seen i 0 ≡ l)
found seen l h =
    let r = Any-from_list_any (nat_eq l) seen h in
    let at : nat_eq l (get_or seen r.0 0) ≡ true = ap (nat_eq l) (get_or_default seen r.0 0 r.1 r.2 ∙ r.3) ∙ r.4 in
    (r.0, r.2, sym ((Decides-eqb l (get_or seen r.0 0)).0 at))

contains_at : (seen : List ℕ) (i l : ℕ) → i < length seen → get_or seen i 0 ≡ l → Contains seen l
contains_at seen i l lt e = subst (Contains seen) e (Contains-get_or seen i 0 lt)

pub each_label : (P : ℕ → Type 0) (seen : List ℕ) (pairs : List (ℕ × ℕ)) → All P seen → All (λ p. P p.1) pairs → All P (labels_from seen pairs)
each_label P seen [] h k = h
each_label P seen (p ∷ pairs) h k =
    let rest : All (λ (q : ℕ × ℕ). P q.1) pairs = λ j d lt. k (suc j) d (omega arith) in
    let p_in : 0 < length (p ∷ pairs) = omega arith in
    go (list_any (nat_eq p.1) seen) (each_label P seen pairs h rest) (each_label P (seen ++ p.1 ∷ []) pairs (All-push P seen p.1 h (k 0 p p_in)) rest)
  where
    go : (b : Bool) → All P (labels_from seen pairs) → All P (labels_from (seen ++ p.1 ∷ []) pairs) → All P (labels_from (cond b seen (seen ++ p.1 ∷ [])) pairs)
    go true r t = r
    go false r t = t

pub all_labels : (seen : List ℕ) (pairs : List (ℕ × ℕ)) (m : ℕ) (d : ℕ × ℕ) → m < length pairs → Contains (labels_from seen pairs) (get_or pairs m d).1
all_labels seen [] m d lt = absurd (omega arith)
all_labels seen (p ∷ pairs) (suc m) d lt = all_labels (noted seen p.1) pairs m d (omega arith)
all_labels seen (p ∷ pairs) zero d lt = kept_in (noted seen p.1) pairs p.1 (go (list_any (nat_eq p.1) seen) refl)
  where
    go : (b : Bool) → list_any (nat_eq p.1) seen ≡ b → Contains (cond b seen (seen ++ p.1 ∷ [])) p.1
    go true e = (let f = found seen p.1 e in contains_at seen f.0 p.1 f.1 f.2)
    go false e = Contains-append_right seen (p.1 ∷ []) p.1 (0, omega arith, refl)

apart : (labels : List ℕ) → AllPairs (λ l m. l ≢ m) labels → (i j : ℕ) → i < j → j < length labels → get_or labels i 0 ≡ get_or labels j 0 → ⊥
apart labels once i j lt inside e = once i j 0 lt inside e

-- an earlier label stands in an earlier pair
earlier_pair : (seen : List ℕ) (pairs : List (ℕ × ℕ)) → AllPairs (λ l m. l ≢ m) (labels_from seen pairs) → (i j m : ℕ) (d : ℕ × ℕ) → i < j → j < length (labels_from seen pairs) → length seen ≤ j → m < length pairs → (get_or pairs m d).1 ≡ get_or (labels_from seen pairs) j 0
    → (i < length seen) ⊎ ((k : ℕ) × (k < m) × ((get_or pairs k d).1 ≡ get_or (labels_from seen pairs) i 0))
earlier_pair seen [] once i j m d less inside old lt e = absurd (omega arith)
earlier_pair seen (p ∷ pairs) once i j zero d less inside old lt e = go (list_any (nat_eq p.1) seen) refl once inside e
  where
    go : (b : Bool) → list_any (nat_eq p.1) seen ≡ b → AllPairs (λ l m. l ≢ m) (labels_from (cond b seen (seen ++ p.1 ∷ [])) pairs) → j < length (labels_from (cond b seen (seen ++ p.1 ∷ [])) pairs) → p.1 ≡ get_or (labels_from (cond b seen (seen ++ p.1 ∷ [])) pairs) j 0
        → (i < length seen) ⊎ ((k : ℕ) × (k < 0) × ((get_or (p ∷ pairs) k d).1 ≡ get_or (labels_from (cond b seen (seen ++ p.1 ∷ [])) pairs) i 0))
    go true f o n h =
        let w = found seen p.1 f in
        let w_in : w.0 < length seen = w.1 in
        absurd (apart (labels_from seen pairs) o w.0 j (omega arith) n (kept_at seen pairs w.0 w.1 ∙ w.2 ∙ h))
    go false f o n h = last (cases_lt (length seen) j)
      where
        long : length (seen ++ p.1 ∷ []) ≡ length seen + 1
        long = length-append seen (p.1 ∷ [])

        here : get_or (labels_from (seen ++ p.1 ∷ []) pairs) (length seen) 0 ≡ p.1
        here = kept_at (seen ++ p.1 ∷ []) pairs (length seen) (omega (arith, long)) ∙ get_or_push seen p.1 0 (length seen) refl

        last : (length seen < j) ⊎ (j ≤ length seen) → (i < length seen) ⊎ ((k : ℕ) × (k < 0) × ((get_or (p ∷ pairs) k d).1 ≡ get_or (labels_from (seen ++ p.1 ∷ []) pairs) i 0))
        last (inl l) = absurd (apart (labels_from (seen ++ p.1 ∷ []) pairs) o (length seen) j l n (here ∙ h))
        last (inr l) = inl (omega arith)
earlier_pair seen (p ∷ pairs) once i j (suc m) d less inside old lt e = go (list_any (nat_eq p.1) seen) refl once inside e (λ s o n l f. earlier_pair s pairs o i j m d less n l (omega arith) f)
  where
    Goal : List ℕ → Type 0
    Goal s = (i < length s) ⊎ ((k : ℕ) × (k < m) × ((get_or pairs k d).1 ≡ get_or (labels_from s pairs) i 0))

    go : (b : Bool) → list_any (nat_eq p.1) seen ≡ b → AllPairs (λ l m. l ≢ m) (labels_from (cond b seen (seen ++ p.1 ∷ [])) pairs) → j < length (labels_from (cond b seen (seen ++ p.1 ∷ [])) pairs) → (get_or pairs m d).1 ≡ get_or (labels_from (cond b seen (seen ++ p.1 ∷ [])) pairs) j 0
        → ((s : List ℕ) → AllPairs (λ l m. l ≢ m) (labels_from s pairs) → j < length (labels_from s pairs) → length s ≤ j → (get_or pairs m d).1 ≡ get_or (labels_from s pairs) j 0 → Goal s)
        → (i < length seen) ⊎ ((k : ℕ) × (k < suc m) × ((get_or (p ∷ pairs) k d).1 ≡ get_or (labels_from (cond b seen (seen ++ p.1 ∷ [])) pairs) i 0))
    go true f o n h ih = step (ih seen o n old h)
      where
        step : Goal seen → (i < length seen) ⊎ ((k : ℕ) × (k < suc m) × ((get_or (p ∷ pairs) k d).1 ≡ get_or (labels_from seen pairs) i 0))
        step (inl l) = inl l
        step (inr w) = (let w_in : w.0 < m = w.1 in inr (suc w.0, omega arith, w.2))
    go false f o n h ih = last (cases_lt (length seen) j)
      where
        long : length (seen ++ p.1 ∷ []) ≡ length seen + 1
        long = length-append seen (p.1 ∷ [])

        here : get_or (labels_from (seen ++ p.1 ∷ []) pairs) (length seen) 0 ≡ p.1
        here = kept_at (seen ++ p.1 ∷ []) pairs (length seen) (omega (arith, long)) ∙ get_or_push seen p.1 0 (length seen) refl

        own : (i < length seen) ⊎ (length seen ≤ i) → i < length (seen ++ p.1 ∷ []) → (i < length seen) ⊎ ((k : ℕ) × (k < suc m) × ((get_or (p ∷ pairs) k d).1 ≡ get_or (labels_from (seen ++ p.1 ∷ []) pairs) i 0))
        own (inl l) b = inl l
        own (inr l) b = (let same : length seen ≡ i = omega (arith, long) in inr (0, omega arith, sym here ∙ ap (λ k. get_or (labels_from (seen ++ p.1 ∷ []) pairs) k 0) same))

        step : Goal (seen ++ p.1 ∷ []) → (i < length seen) ⊎ ((k : ℕ) × (k < suc m) × ((get_or (p ∷ pairs) k d).1 ≡ get_or (labels_from (seen ++ p.1 ∷ []) pairs) i 0))
        step (inl l) = own (cases_lt i (length seen)) l
        step (inr w) = (let w_in : w.0 < m = w.1 in inr (suc w.0, omega arith, w.2))

        last : (length seen < j) ⊎ (j ≤ length seen) → (i < length seen) ⊎ ((k : ℕ) × (k < suc m) × ((get_or (p ∷ pairs) k d).1 ≡ get_or (labels_from (seen ++ p.1 ∷ []) pairs) i 0))
        last (inl l) = step (ih (seen ++ p.1 ∷ []) o n (omega (arith, long)) h)
        last (inr l) = inl (omega arith)

-- the labels of the pairs of least valuations
pub labels_exact : (w : ℕ) (nodes : List Branch) (pairs : List (ℕ × ℕ)) (labels : List ℕ) → AreLeasts w nodes pairs → labels ≡ labels_in pairs → AllPairs (λ l m. l ≢ m) labels → AreLabels w nodes labels
labels_exact w nodes pairs labels h e once = record {
  once = once;
  each = subst (All P) (sym e) (each_label P [] pairs none (λ k d lt. (let x = h.each k d lt in ((get_or pairs k d).0, x.0, x.1))));
  all = λ bits. (
      let f = h.all bits in
      let c = f.1 in
      let there : Contains (labels_in pairs) (get_or pairs c.0 f.0).1 = all_labels [] pairs c.0 f.0 c.1 in
      subst (λ (s : List ℕ). Contains s (label_of nodes bits)) (sym e) (subst (Contains (labels_in pairs)) (ap (λ (q : ℕ × ℕ). q.1) c.2 ∙ f.2) there));
  order = λ i j bits less inside is. order i j bits less inside is;
}
  where
    P : ℕ → Type 0
    P l = (bits : ℕ) × (bits < 2 ^ w) × (label_of nodes bits ≡ l)

    none : All P []
    none k d lt = absurd (omega arith)

    order : (i j bits : ℕ) → i < j → j < length labels → label_of nodes bits ≡ get_or labels j 0 → (b : ℕ) × (b < bits) × (label_of nodes b ≡ get_or labels i 0)
    order i j bits less inside is =
        let f = h.all bits in
        let c = f.1 in
        let m : ℕ = c.0 in
        let m_in : m < length pairs = c.1 in
        let at : (get_or pairs m f.0).1 ≡ get_or (labels_in pairs) j 0 = ap (λ (q : ℕ × ℕ). q.1) c.2 ∙ f.2 ∙ is ∙ ap (λ (s : List ℕ). get_or s j 0) e in
        let once' : AllPairs (λ l m. l ≢ m) (labels_in pairs) = subst (AllPairs (λ l m. l ≢ m)) e once in
        let inside' : j < length (labels_in pairs) = subst (λ (s : List ℕ). j < length s) e inside in
        go f.0 m c.1 (ap (λ (q : ℕ × ℕ). q.0) c.2) f.3 (earlier_pair [] pairs once' i j m f.0 less inside' (omega arith) c.1 at)
      where
        go : (d : ℕ × ℕ) (m : ℕ) → m < length pairs → (get_or pairs m d).0 ≡ d.0 → d.0 ≤ bits → (i < 0) ⊎ ((k : ℕ) × (k < m) × ((get_or pairs k d).1 ≡ get_or (labels_in pairs) i 0)) → (b : ℕ) × (b < bits) × (label_of nodes b ≡ get_or labels i 0)
        go d m m_in dm le (inl l) = absurd (omega arith)
        go d m m_in dm le (inr k) =
            let b : ℕ = (get_or pairs k.0 d).0 in
            let rise : b ≤ (get_or pairs m d).0 = h.rising k.0 m d k.1 m_in in
            let k_in : k.0 < m = k.1 in
            let label : label_of nodes b ≡ get_or labels i 0 = (h.each k.0 d (omega arith)).1 ∙ k.2 ∙ ap (λ (s : List ℕ). get_or s i 0) (sym e) in
            (b, strict b (omega arith) label (cases_lt b bits), label)
          where
            strict : (b : ℕ) → b ≤ bits → label_of nodes b ≡ get_or labels i 0 → (b < bits) ⊎ (bits ≤ b) → b < bits
            strict b lower label (inl l) = l
            strict b lower label (inr l) =
                let same : b ≡ bits = omega arith in
                absurd (apart labels once i j less inside (sym label ∙ ap (label_of nodes) same ∙ is))
