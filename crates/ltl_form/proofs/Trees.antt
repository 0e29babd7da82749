-- The trees of forms: each is the one of its form over the trees before it, and stays as forms are added.
use Rattle.std.proofs.Common.{Bool, true, false, if◌then◌else◌, nat_lt, slice_get, Some, rules, ◌≡◌, ℕ, ◌+◌, ◌<◌, ◌≤◌, List, [], ◌∷◌, ◌++◌, length, get_or, take, drop, refl, ap, sym, ◌∙◌, subst, arith, length-append, length-take}
use borrow.Author.Tests.{ltb-true, ltb-false}
use Rattle.std.specs.List.{list_any}
use Rattle.indexmap.specs.IndexSet.{insert_key}
use Rattle.std.proofs.lemmas.Option.{slice_get_within, get_or_from_slice_get}
use Rattle.ltl_form.specs.contracts.forms.FormPartialEq.TheImpl.{eq-value}
use Rattle.std.proofs.lemmas.List.{get_or_append_left, get_or_push, take-append-drop, drop_more}
use Rattle.ltl_form.specs.declared.forms.Form.{Form}
use Rattle.ltl_form.specs.declared.forms.Form.TheVariants.{True, False, Lit, And, Or, Next, Until, Release}
use Rattle.ltl_form.specs.Tree.{Tree, truth, is_truth, is_falsity}
use Rattle.ltl_form.specs.Form.{IsFormAt, IsFormList, tree_of, trees_after, tree_at, Keeps, Made}

-- one form more
pub trees-push : (ts : List Tree) (forms : List Form) (form : Form)
    → trees_after ts (forms ++ form ∷ []) ≡ trees_after ts forms ++ tree_of (trees_after ts forms) form ∷ []
unfolding trees_after
trees-push ts [] form = refl
trees-push ts (x ∷ xs) form = trees-push (ts ++ tree_of ts x ∷ []) xs form

pub trees-join : (ts : List Tree) (a b : List Form) → trees_after ts (a ++ b) ≡ trees_after (trees_after ts a) b
unfolding trees_after
trees-join ts [] b = refl
trees-join ts (x ∷ xs) b = trees-join (ts ++ tree_of ts x ∷ []) xs b

pub trees-length : (ts : List Tree) (forms : List Form) → length (trees_after ts forms) ≡ length ts + length forms
unfolding trees_after
trees-length ts [] = omega arith
trees-length ts (x ∷ xs) = omega (arith, trees-length (ts ++ tree_of ts x ∷ []) xs, length-append ts (tree_of ts x ∷ []))

-- the trees before stay
pub trees-before : (ts : List Tree) (forms : List Form) (at : ℕ) (d : Tree) → at < length ts → get_or (trees_after ts forms) at d ≡ get_or ts at d
unfolding trees_after
trees-before ts [] at d h = refl
trees-before ts (x ∷ xs) at d h =
    let longer : at < length (ts ++ tree_of ts x ∷ []) = omega (arith, length-append ts (tree_of ts x ∷ [])) in
    trees-before (ts ++ tree_of ts x ∷ []) xs at d longer ∙ get_or_append_left ts (tree_of ts x ∷ []) d at h

-- over two lists of trees that agree below n, a form whose operands lie below n has one tree
pub tree_of-same : (ts us : List Tree) (n : ℕ) (form : Form) → IsFormAt n form
    → ((at : ℕ) → at < n → get_or us at truth ≡ get_or ts at truth) → tree_of us form ≡ tree_of ts form
tree_of-same ts us n True h same = refl
tree_of-same ts us n False h same = refl
tree_of-same ts us n (Lit signal positive) h same = refl
tree_of-same ts us n (And f g) h same = rw (same f h.0, same g h.1) refl
tree_of-same ts us n (Or f g) h same = rw (same f h.0, same g h.1) refl
tree_of-same ts us n (Next f) h same = rw (same f h) refl
tree_of-same ts us n (Until f g) h same = rw (same f h.0, same g h.1) refl
tree_of-same ts us n (Release f g) h same = rw (same f h.0, same g h.1) refl

pub keeps_same : (forms : List Form) → Keeps forms forms
keeps_same forms = record { longer = omega arith; same = λ at h. refl }

pub keeps_both : (a b c : List Form) → Keeps a b → Keeps b c → Keeps a c
keeps_both a b c h k = record {
  longer = omega (arith, h.longer, k.longer);
  same = λ at l. let m : at < length b = omega (arith, h.longer) in k.same at m ∙ h.same at l;
}

pub keeps_push : (forms : List Form) (form : Form) → Keeps forms (forms ++ form ∷ [])
keeps_push forms form = record {
  longer = omega (arith, length-append forms (form ∷ []));
  same = λ at l.
      let m : at < length (trees_after [] forms) = omega (arith, trees-length [] forms) in
      rw (trees-push [] forms form) (get_or_append_left (trees_after [] forms) (tree_of (trees_after [] forms) form ∷ []) truth at m);
}

step : (ts : List Tree) (x : Form) (b : List Form) → trees_after ts (x ∷ b) ≡ trees_after (ts ++ tree_of ts x ∷ []) b
unfolding trees_after
step ts x b = refl

-- the tree at a place is the one of its form
pub tree_at-is : (forms : List Form) → IsFormList forms → (at : ℕ) → at < length forms
    → tree_at forms at ≡ tree_of (trees_after [] forms) (get_or forms at True)
tree_at-is forms ok at h =
    let x : Form = get_or forms at True in
    let a : List Form = take at forms in
    let b : List Form = drop (at + 1) forms in
    let cut : forms ≡ a ++ (x ∷ b) = sym (take-append-drop at forms) ∙ ap (λ l. a ++ l) (drop_more forms at True h) in
    let la : length (trees_after [] a) ≡ at = omega (arith, trees-length [] a, length-take at forms) in
    let ts : List Tree = trees_after [] a in
    let y : Tree = tree_of ts x in
    let all : trees_after [] forms ≡ trees_after (ts ++ y ∷ []) b =
    ap (trees_after []) cut ∙ trees-join [] a (x ∷ b) ∙ step ts x b in
    let here : get_or (trees_after (ts ++ y ∷ []) b) at truth ≡ y =
    trees-before (ts ++ y ∷ []) b at truth (omega (arith, length-append ts (y ∷ []))) ∙ get_or_push ts y truth at la in
    let agree : (k : ℕ) → k < at → get_or (trees_after [] forms) k truth ≡ get_or ts k truth =
    λ k l. ap (λ l. get_or l k truth) all ∙ trees-before (ts ++ y ∷ []) b k truth (omega (arith, length-append ts (y ∷ [])))
    ∙ get_or_append_left ts (y ∷ []) truth k (omega arith) in
    let fits : IsFormAt at x = ok at True h in
    ap (λ l. get_or l at truth) all ∙ here ∙ sym (tree_of-same ts (trees_after [] forms) at x fits agree)

-- a form at a further place n, where its operands lie before n
fits_more : (n : ℕ) (m : ℕ) (form : Form) → IsFormAt n form → n ≤ m → IsFormAt m form
fits_more n m True h l = tt
fits_more n m False h l = tt
fits_more n m (Lit signal positive) h l = h
fits_more n m (And f g) h l = (omega (arith, h.0), omega (arith, h.1))
fits_more n m (Or f g) h l = (omega (arith, h.0), omega (arith, h.1))
fits_more n m (Next f) h l = omega (arith, h)
fits_more n m (Until f g) h l = (omega (arith, h.0), omega (arith, h.1))
fits_more n m (Release f g) h l = (omega (arith, h.0), omega (arith, h.1))

pub forms_push : (forms : List Form) (form : Form) → IsFormList forms → IsFormAt (length forms) form → IsFormList (forms ++ form ∷ [])
forms_push forms form ok fits n d h = by (nat_lt n (length forms)) refl
  where
    by : (b : Bool) → nat_lt n (length forms) ≡ b → IsFormAt n (get_or (forms ++ form ∷ []) n d)
    by true e =
        let l : n < length forms = ltb-true n (length forms) e in
        rw (get_or_append_left forms (form ∷ []) d n l) (ok n d l)
    by false e =
        let l : length forms ≤ n = ltb-false n (length forms) e in
        let i : length forms ≡ n = omega (arith, length-append forms (form ∷ [])) in
        rw (get_or_push forms form d n i) (subst (λ k. IsFormAt k form) i fits)

module _ (eq : Form → Form → Bool) (same : (x y : Form) → eq x y ≡ true → x ≡ y) where
  pub forms_inserted : (forms : List Form) (form : Form) → IsFormList forms → IsFormAt (length forms) form → IsFormList (insert_key eq forms form)
  forms_inserted forms form ok fits = by (list_any (eq form) forms)
    where
      by : (b : Bool) → IsFormList (if b then forms else forms ++ form ∷ [])
      by true = ok
      by false = forms_push forms form ok fits

  pub keeps_inserted : (forms : List Form) (form : Form) → Keeps forms (insert_key eq forms form)
  keeps_inserted forms form = by (list_any (eq form) forms)
    where
      by : (b : Bool) → Keeps forms (if b then forms else forms ++ form ∷ [])
      by true = keeps_same forms
      by false = keeps_push forms form

  pub made_inserted : (old new : List Form) (form : Form) (at : ℕ) → IsFormList old → IsFormAt (length old) form
      → new ≡ insert_key eq old form → (k : Form) → slice_get new at ≡ Some k → eq form k ≡ true
      → Made old new at (tree_of (trees_after [] old) form)
  made_inserted old new form at ok fits is k there e =
      let keeps : Keeps old new = subst (Keeps old) (sym is) (keeps_inserted old form) in
      let all : IsFormList new = subst IsFormList (sym is) (forms_inserted old form ok fits) in
      let place : at < length new = slice_get_within new at k there in
      let here : get_or new at True ≡ form = get_or_from_slice_get new at k True there ∙ sym (same form k e) in
      record {
        keeps = keeps;
        place = place;
        is = tree_at-is new all at place ∙ ap (tree_of (trees_after [] new)) here
            ∙ tree_of-same (trees_after [] old) (trees_after [] new) (length old) form fits keeps.same;
      }

pub same_form : (x y : Form) → eq-value.it x y ≡ true → x ≡ y
same_form x y = search rules

pub eq_is_truth : (ts : List Tree) (form : Form) → eq-value.it form True ≡ is_truth (tree_of ts form)
eq_is_truth ts True = refl
eq_is_truth ts False = refl
eq_is_truth ts (Lit signal positive) = refl
eq_is_truth ts (And f g) = refl
eq_is_truth ts (Or f g) = refl
eq_is_truth ts (Next f) = refl
eq_is_truth ts (Until f g) = refl
eq_is_truth ts (Release f g) = refl

pub eq_is_falsity : (ts : List Tree) (form : Form) → eq-value.it form False ≡ is_falsity (tree_of ts form)
eq_is_falsity ts True = refl
eq_is_falsity ts False = refl
eq_is_falsity ts (Lit signal positive) = refl
eq_is_falsity ts (And f g) = refl
eq_is_falsity ts (Or f g) = refl
eq_is_falsity ts (Next f) = refl
eq_is_falsity ts (Until f g) = refl
eq_is_falsity ts (Release f g) = refl

pub reads_truth : (forms : List Form) → IsFormList forms → (at : ℕ) → at < length forms → eq-value.it (get_or forms at True) True ≡ is_truth (tree_at forms at)
reads_truth forms ok at h = eq_is_truth (trees_after [] forms) (get_or forms at True) ∙ sym (ap is_truth (tree_at-is forms ok at h))

pub reads_falsity : (forms : List Form) → IsFormList forms → (at : ℕ) → at < length forms → eq-value.it (get_or forms at True) False ≡ is_falsity (tree_at forms at)
reads_falsity forms ok at h = eq_is_falsity (trees_after [] forms) (get_or forms at True) ∙ sym (ap is_falsity (tree_at-is forms ok at h))
