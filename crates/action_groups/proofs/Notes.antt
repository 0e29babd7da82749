-- Notes that are looked up and made.
use Rattle.std.proofs.Common.{◌≡◌, ℕ, zero, suc, ◌<◌, ◌⊎◌, inl, inr, Bool, true, false, cond, eqb, ◌&&◌, List, [], ◌∷◌, length, get_or, Some, refl, sym, ap, ◌∙◌, subst, arith}
use Rattle.std.specs.Prelude.{Vec}
use Rattle.std.specs.Bool.{Decides, beq}
use Rattle.std.specs.List.{All, Contains}
use Rattle.std.specs.Cmp.Lexicographic.{pointwise}
use Rattle.std.specs.Map.{lookup}
use Rattle.std.specs.declared.alloc.Global.{Global}
use Rattle.std.proofs.lemmas.Bool.{and_parts}
use Rattle.std.proofs.lemmas.List.Elements.{All-contains, Contains-get_or}
use Rattle.std.proofs.lemmas.Bool.Decides.{Decides-eqb}
use Rattle.std.proofs.lemmas.Slice.Eq.{slice_eq-Decides}
use Rattle.indexmap.specs.IndexMap.{insert_entry}
use Rattle.action_groups.specs.declared.memos.Subtree.{Subtree}
use Rattle.action_groups.specs.declared.ways.Way.{Way}
use Rattle.action_groups.specs.Memo.{Note, note_by, note_of, notes_of, IsNoted}
use Rattle.action_groups.proofs.Lists.{bools_decide}

abbrev pub same_way : Way → Way → Bool
same_way v w = eqb v.from w.from && ((eqb v.edge.cube.care w.edge.cube.care && eqb v.edge.cube.want w.edge.cube.want) && (eqb v.edge.next w.edge.next && beq v.edge.marked w.edge.marked))

abbrev way_by : ℕ → ℕ → ℕ → ℕ → Bool → Way
way_by f c w n m = record { from = f; edge = record { cube = record { care = c; want = w }; next = n; marked = m } }

pub way_decides : (v w : Way) → Decides (same_way v w) (v ≡ w)
way_decides v w = (forth, λ e. subst (λ u. same_way v u ≡ true) e itself)
  where
    forth : same_way v w ≡ true → v ≡ w
    forth e =
        let whole = and_parts (eqb v.from w.from) ((eqb v.edge.cube.care w.edge.cube.care && eqb v.edge.cube.want w.edge.cube.want) && (eqb v.edge.next w.edge.next && beq v.edge.marked w.edge.marked)) e in
        let edges = and_parts (eqb v.edge.cube.care w.edge.cube.care && eqb v.edge.cube.want w.edge.cube.want) (eqb v.edge.next w.edge.next && beq v.edge.marked w.edge.marked) whole.1 in
        let cubes = and_parts (eqb v.edge.cube.care w.edge.cube.care) (eqb v.edge.cube.want w.edge.cube.want) edges.0 in
        let ends = and_parts (eqb v.edge.next w.edge.next) (beq v.edge.marked w.edge.marked) edges.1 in
        let from : v.from ≡ w.from = (Decides-eqb v.from w.from).0 whole.0 in
        let care : v.edge.cube.care ≡ w.edge.cube.care = (Decides-eqb v.edge.cube.care w.edge.cube.care).0 cubes.0 in
        let want : v.edge.cube.want ≡ w.edge.cube.want = (Decides-eqb v.edge.cube.want w.edge.cube.want).0 cubes.1 in
        let next : v.edge.next ≡ w.edge.next = (Decides-eqb v.edge.next w.edge.next).0 ends.0 in
        let marked : v.edge.marked ≡ w.edge.marked = (bools_decide v.edge.marked w.edge.marked).0 ends.1 in
        ap (λ (x : ℕ). way_by x v.edge.cube.care v.edge.cube.want v.edge.next v.edge.marked) from
        ∙ ap (λ (x : ℕ). way_by w.from x v.edge.cube.want v.edge.next v.edge.marked) care
        ∙ ap (λ (x : ℕ). way_by w.from w.edge.cube.care x v.edge.next v.edge.marked) want
        ∙ ap (λ (x : ℕ). way_by w.from w.edge.cube.care w.edge.cube.want x v.edge.marked) next
        ∙ ap (λ (x : Bool). way_by w.from w.edge.cube.care w.edge.cube.want w.edge.next x) marked

    itself : same_way v v ≡ true
    itself =
        ap (λ b. b && ((eqb v.edge.cube.care v.edge.cube.care && eqb v.edge.cube.want v.edge.cube.want) && (eqb v.edge.next v.edge.next && beq v.edge.marked v.edge.marked))) ((Decides-eqb v.from v.from).1 refl)
        ∙ ap (λ b. (b && eqb v.edge.cube.want v.edge.cube.want) && (eqb v.edge.next v.edge.next && beq v.edge.marked v.edge.marked)) ((Decides-eqb v.edge.cube.care v.edge.cube.care).1 refl)
        ∙ ap (λ b. b && (eqb v.edge.next v.edge.next && beq v.edge.marked v.edge.marked)) ((Decides-eqb v.edge.cube.want v.edge.cube.want).1 refl)
        ∙ ap (λ b. b && beq v.edge.marked v.edge.marked) ((Decides-eqb v.edge.next v.edge.next).1 refl)
        ∙ (bools_decide v.edge.marked v.edge.marked).1 refl

-- a place with its edges
abbrev Key : Type 0
Key = ℕ × Vec Way Global

abbrev IsKey : Key → ℕ → List Way → Type 0
IsKey k place ways = (k.0 ≡ place) × (k.1.items ≡ ways)

pub same_key : (key k : Key) (ways : List Way) → key.1.items ≡ ways → (eqb key.0 k.0 && pointwise same_way key.1.items k.1.items) ≡ true → IsKey k key.0 ways
same_key key k ways is e =
    let parts = and_parts (eqb key.0 k.0) (pointwise same_way key.1.items k.1.items) e in
    (sym ((Decides-eqb key.0 k.0).0 parts.0), sym ((slice_eq-Decides way_decides key.1.items k.1.items _ refl).0 parts.1) ∙ is)

note_same : (k : Key) (place : ℕ) (ways : List Way) (t u : Subtree) → IsKey k place ways → t.letter ≡ u.letter → t.first ≡ u.first → t.pairs.items ≡ u.pairs.items → note_of k.0 k.1.items t ≡ note_of place ways u
note_same k place ways t u is letter first pairs =
    ap (λ (x : ℕ). note_by x k.1.items t.letter t.first t.pairs.items) is.0
    ∙ ap (λ (x : List Way). note_by place x t.letter t.first t.pairs.items) is.1
    ∙ ap (λ (x : ℕ). note_by place ways x t.first t.pairs.items) letter
    ∙ ap (λ (x : ℕ). note_by place ways u.letter x t.pairs.items) first
    ∙ ap (λ (x : List (ℕ × ℕ)). note_by place ways u.letter u.first x) pairs

later : {X : Type 0} (y : X) (xs : List X) (x : X) → Contains xs x → Contains (y ∷ xs) x
later y xs x h = (let lt : h.0 < length xs = h.1 in (suc h.0, omega arith, h.2))

-- what is found is noted
pub noted_there : (test : Key → Bool) (es : List (Key × Subtree)) (place : ℕ) (ways : List Way) (t u : Subtree) → ((k : Key) → test k ≡ true → IsKey k place ways) → Some t ≡ lookup test es → t.letter ≡ u.letter → t.first ≡ u.first → t.pairs.items ≡ u.pairs.items → Contains (notes_of es) (note_of place ways u)
noted_there test [] place ways t u same e letter first pairs = absurd (cc)
noted_there test (x ∷ es) place ways t u same e letter first pairs = go (test x.0) refl (λ f. noted_there test es place ways t u same f letter first pairs)
  where
    go : (b : Bool) → test x.0 ≡ b → (Some t ≡ lookup test es → Contains (notes_of es) (note_of place ways u)) → Contains (notes_of (x ∷ es)) (note_of place ways u)
    go true is rest =
        let found : Some t ≡ Some x.1 = e ∙ ap (λ b. cond b (Some x.1) (lookup test es)) is in
        let value : t ≡ x.1 = cc in
        (0, omega arith, subst (λ v. note_of x.0.0 x.0.1.items v ≡ note_of place ways u) value (note_same x.0 place ways t u (same x.0 is) letter first pairs))
    go false is rest = later (note_of x.0.0 x.0.1.items x.1) (notes_of es) (note_of place ways u) (rest (e ∙ ap (λ b. cond b (Some x.1) (lookup test es)) is))

cases_cons : {X : Type 0} (y : X) (xs : List X) (x : X) → Contains (y ∷ xs) x → (y ≡ x) ⊎ Contains xs x
cases_cons y xs x h = go h.0 h.1 h.2
  where
    go : (k : ℕ) → k < length (y ∷ xs) → get_or (y ∷ xs) k x ≡ x → (y ≡ x) ⊎ Contains xs x
    go zero lt e = inl e
    go (suc k) lt e = inr (k, omega arith, e)

-- one more note
pub noted_each : (eq : Key → Key → Bool) (es : List (Key × Subtree)) (key : Key) (ways : List Way) (t : Subtree) → key.1.items ≡ ways → ((k : Key) → eq key k ≡ true → IsKey k key.0 ways) → IsNoted (notes_of es) (notes_of (insert_entry eq es key t)) (note_of key.0 ways t)
noted_each eq [] key ways t is same m has = go (cases_cons (note_of key.0 key.1.items t) [] m has)
  where
    go : (note_of key.0 key.1.items t ≡ m) ⊎ Contains [] m → (m ≡ note_of key.0 ways t) ⊎ Contains [] m
    go (inl e) = inl (sym e ∙ note_same key key.0 ways t t (refl, is) refl refl refl)
    go (inr h) = inr h
noted_each eq (x ∷ es) key ways t is same m has = go (eq key x.0) refl (noted_each eq es key ways t is same m)
  where
    old : Note
    old = note_of x.0.0 x.0.1.items x.1

    here : (m ≡ note_of key.0 ways t) ⊎ Contains (notes_of es) m → (m ≡ note_of key.0 ways t) ⊎ Contains (old ∷ notes_of es) m
    here (inl e) = inl e
    here (inr h) = inr (later old (notes_of es) m h)

    replaced : eq key x.0 ≡ true → (note_of x.0.0 x.0.1.items t ≡ m) ⊎ Contains (notes_of es) m → (m ≡ note_of key.0 ways t) ⊎ Contains (old ∷ notes_of es) m
    replaced e (inl f) = inl (sym f ∙ note_same x.0 key.0 ways t t (same x.0 e) refl refl refl)
    replaced e (inr h) = inr (later old (notes_of es) m h)

    passed : (Contains (notes_of (insert_entry eq es key t)) m → (m ≡ note_of key.0 ways t) ⊎ Contains (notes_of es) m) → (old ≡ m) ⊎ Contains (notes_of (insert_entry eq es key t)) m → (m ≡ note_of key.0 ways t) ⊎ Contains (old ∷ notes_of es) m
    passed rest (inl f) = inr (0, omega arith, f)
    passed rest (inr h) = here (rest h)

    choose : Bool → List (Key × Subtree)
    choose b = cond b ((x.0, t) ∷ es) (x ∷ insert_entry eq es key t)

    go : (b : Bool) → eq key x.0 ≡ b → (Contains (notes_of (insert_entry eq es key t)) m → (m ≡ note_of key.0 ways t) ⊎ Contains (notes_of es) m) → (m ≡ note_of key.0 ways t) ⊎ Contains (old ∷ notes_of es) m
    go true e rest = replaced e (cases_cons (note_of x.0.0 x.0.1.items t) (notes_of es) m (subst (λ b. Contains (notes_of (choose b)) m) e has))
    go false e rest = passed rest (cases_cons old (notes_of (insert_entry eq es key t)) m (subst (λ b. Contains (notes_of (choose b)) m) e has))

-- what holds of each note, after one more
pub all_noted : (P : Note → Type 0) (old new : List Note) (n : Note) → IsNoted old new n → All P old → P n → All P new
all_noted P old new n noted h p k d lt = go (noted (get_or new k d) (Contains-get_or new k d lt))
  where
    go : (get_or new k d ≡ n) ⊎ Contains old (get_or new k d) → P (get_or new k d)
    go (inl e) = subst P (sym e) p
    go (inr w) = All-contains P old (get_or new k d) h w
