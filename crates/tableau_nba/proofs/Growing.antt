-- The places of a walk, and the edges of its states, as they grow.
use Rattle.std.proofs.Common.{◌≡◌, ℕ, ◌+◌, ◌<◌, ◌≤◌, Bool, true, false, not, ◌&&◌, ◌||◌, cond, List, [], ◌∷◌, ◌++◌, length, map, get_or, take, drop, Result, Ok, Err, refl, sym, ap, ◌∙◌, subst, arith}
use Rattle.std.specs.Prelude.{fold}
use Rattle.std.specs.List.{list_all, list_any, position_or_len}
use Rattle.std.specs.Result.{IfErr, IsErrAnd}
use Rattle.std.proofs.lemmas.Bool.{and_from, and_parts}
use Rattle.std.proofs.lemmas.List.{append-nil, append_assoc, take-append-drop, map-append, length-append, get_or-map, map_push, take_all, take_more}
use Rattle.indexmap.specs.IndexSet.{insert_key, insert_all}
use Rattle.word_core.specs.declared.automata.Edge.{Edge}
use Rattle.word_core.specs.contracts.automata.EdgePartialEq.TheImpl as edge_eq
use Rattle.cover_sets.specs.Covers.{CoverSets}
use Rattle.tableau_nba.specs.declared.cubes.Literal.{Literal}
use Rattle.tableau_nba.specs.declared.tableaux.TableauError.{TableauError}
use Rattle.tableau_nba.specs.declared.tableaux.TableauError.TheVariants.{TooManyStates, TooWide}
use Rattle.cover_sets.specs.declared.bit_covers.BitCover.{BitCover}
use Rattle.cover_sets.specs.Bits.{sets_of}
use Rattle.cover_sets.specs.Union.{covers_of}
use Rattle.tableau_nba.specs.Walks.{Spot, cube_in, edge_in, edges_in, is_marked, grown, same_edge, same_spot, target}
use Rattle.tableau_nba.proofs.Spots.{edges_put, same_self}

-- ---- one key more

fold_push : {A B : Type 0} (f : B → A → B) (z : B) (xs : List A) (x : A) → fold f z (xs ++ x ∷ []) ≡ f (fold f z xs) x
fold_push f z [] x = refl
fold_push f z (y ∷ ys) x = fold_push f (f z y) ys x

any_left : {X : Type 0} (p : X → Bool) (xs ys : List X) → list_any p xs ≡ true → list_any p (xs ++ ys) ≡ true
any_left p [] ys h = absurd cc
any_left p (x ∷ xs) ys h = go (p x) refl h (λ k. any_left p xs ys k)
  where
    go : (b : Bool) → p x ≡ b → (b || list_any p xs) ≡ true → (list_any p xs ≡ true → list_any p (xs ++ ys) ≡ true) → (b || list_any p (xs ++ ys)) ≡ true
    go true e k rec = refl
    go false e k rec = rec k

any_last : {X : Type 0} (p : X → Bool) (xs : List X) (x : X) → p x ≡ true → list_any p (xs ++ x ∷ []) ≡ true
any_last p [] x h = ap (λ b. b || false) h
any_last p (y ∷ ys) x h = go (p y) (any_last p ys x h)
  where
    go : (b : Bool) → list_any p (ys ++ x ∷ []) ≡ true → (b || list_any p (ys ++ x ∷ [])) ≡ true
    go true e = refl
    go false e = e

pub position_appended : {X : Type 0} (p : X → Bool) (xs ys : List X) → list_any p xs ≡ true → position_or_len p (xs ++ ys) ≡ position_or_len p xs
position_appended p [] ys h = absurd cc
position_appended p (x ∷ xs) ys h = go (p x) refl h (λ k. position_appended p xs ys k)
  where
    go : (b : Bool) → p x ≡ b → (b || list_any p xs) ≡ true → (list_any p xs ≡ true → position_or_len p (xs ++ ys) ≡ position_or_len p xs)
        → cond (not b) (1 + position_or_len p (xs ++ ys)) 0 ≡ cond (not b) (1 + position_or_len p xs) 0
    go true e k rec = refl
    go false e k rec = ap (λ n. 1 + n) (rec k)

-- the keys stay, and others go behind them
key_behind : (ks : List Spot) (k : Spot) → (more : List Spot) × (insert_key same_spot ks k ≡ ks ++ more)
key_behind ks k = go (list_any (same_spot k) ks)
  where
    go : (b : Bool) → (more : List Spot) × (cond b ks (ks ++ k ∷ []) ≡ ks ++ more)
    go true = ([], sym (append-nil ks))
    go false = (k ∷ [], refl)

pub keys_behind : (ks ts : List Spot) → (more : List Spot) × (insert_all same_spot ks ts ≡ ks ++ more)
keys_behind ks [] = ([], sym (append-nil ks))
keys_behind ks (t ∷ ts) =
    let p = key_behind ks t in
    let q = keys_behind (insert_key same_spot ks t) ts in
    (p.0 ++ q.0, q.1 ∙ ap (λ xs. xs ++ q.0) p.1 ∙ append_assoc ks p.0 q.0)

key_in : (ks : List Spot) (k : Spot) → list_any (same_spot k) (insert_key same_spot ks k) ≡ true
key_in ks k = go (list_any (same_spot k) ks) refl
  where
    go : (b : Bool) → list_any (same_spot k) ks ≡ b → list_any (same_spot k) (cond b ks (ks ++ k ∷ [])) ≡ true
    go true e = e
    go false e = any_last (same_spot k) ks k (same_self k)

stays_in : (p : Spot → Bool) (ks ts : List Spot) → list_any p ks ≡ true → list_any p (insert_all same_spot ks ts) ≡ true
stays_in p ks ts h = let q = keys_behind ks ts in subst (λ xs. list_any p xs ≡ true) (sym q.1) (any_left p ks q.0 h)

pub all_in_keys : (ks ts : List Spot) → list_all (λ t. list_any (same_spot t) (insert_all same_spot ks ts)) ts ≡ true
all_in_keys ks [] = refl
all_in_keys ks (t ∷ ts) = and_from _ _ (stays_in (same_spot t) (insert_key same_spot ks t) ts (key_in ks t)) (all_in_keys (insert_key same_spot ks t) ts)

-- ---- the edges of one state

-- every cover leads to one of the places
abbrev pub leads : List ℕ → List Spot → ℕ → List CoverSets → Bool
leads untils spots level list = list_all (λ c. list_any (same_spot (target untils level c)) spots) list

all_mapped : {X Y : Type 0} (f : X → Y) (p : Y → Bool) (xs : List X) → list_all p (map f xs) ≡ list_all (λ x. p (f x)) xs
all_mapped f p [] = refl
all_mapped f p (x ∷ xs) = ap (λ b. p (f x) && b) (all_mapped f p xs)

pub leads_grown : (untils : List ℕ) (spots : List Spot) (level : ℕ) (list : List CoverSets) → leads untils (grown untils level list spots) level list ≡ true
leads_grown untils spots level list = sym (all_mapped (target untils level) (λ t. list_any (same_spot t) (grown untils level list spots)) list) ∙ all_in_keys spots (map (target untils level) list)

pub leads_more : (untils : List ℕ) (spots more : List Spot) (level : ℕ) (list : List CoverSets) → leads untils spots level list ≡ true → leads untils (spots ++ more) level list ≡ true
leads_more untils spots more level [] h = refl
leads_more untils spots more level (c ∷ cs) h =
    let p = and_parts _ _ h in
    and_from _ _ (any_left (same_spot (target untils level c)) spots more p.0) (leads_more untils spots more level cs p.1)

edges_more : (literals : List Literal) (untils : List ℕ) (spots more : List Spot) (level : ℕ) (list : List CoverSets) → leads untils spots level list ≡ true
    → map (edge_in literals untils (spots ++ more) level) list ≡ map (edge_in literals untils spots level) list
edges_more literals untils spots more level [] h = refl
edges_more literals untils spots more level (c ∷ cs) h =
    let p = and_parts _ _ h in
    ap (λ n. record_of n ∷ map (edge_in literals untils (spots ++ more) level) cs) (position_appended (same_spot (target untils level c)) spots more p.0)
    ∙ ap (λ es. edge_in literals untils spots level c ∷ es) (edges_more literals untils spots more level cs p.1)
  where
    record_of : ℕ → Edge
    record_of n = record { cube = cube_in literals c.literals; next = n; marked = is_marked untils level c }

pub edges_kept : (literals : List Literal) (untils : List ℕ) (spots more : List Spot) (level : ℕ) (list : List CoverSets) → leads untils spots level list ≡ true
    → edges_in literals untils (spots ++ more) level list ≡ edges_in literals untils spots level list
edges_kept literals untils spots more level list h = ap (insert_all same_edge []) (edges_more literals untils spots more level list h)

pub grown_step : (untils : List ℕ) (level : ℕ) (list : List CoverSets) (i : ℕ) (d : CoverSets) (start old new : List Spot) → i < length list → old ≡ grown untils level (take i list) start
    → new ≡ insert_key same_spot old (target untils level (get_or list i d)) → new ≡ grown untils level (take (i + 1) list) start
grown_step untils level list i d start old new l e f =
    f ∙ ap (λ ks. insert_key same_spot ks (target untils level (get_or list i d))) e
    ∙ sym (ap (λ cs. grown untils level cs start) (take_more list i d l) ∙ ap (insert_all same_spot start) (map_push (target untils level) (take i list) (get_or list i d))
    ∙ fold_push (insert_key same_spot) start (map (target untils level) (take i list)) (target untils level (get_or list i d)))

pub edges_step : (literals : List Literal) (untils : List ℕ) (level : ℕ) (list : List CoverSets) (i : ℕ) (d : CoverSets) (start old new : List Spot) (edges more : List Edge) (edge : Edge) → i < length list
    → old ≡ grown untils level (take i list) start → new ≡ insert_key same_spot old (target untils level (get_or list i d))
    → edges ≡ edges_in literals untils old level (take i list) → edge ≡ edge_in literals untils new level (get_or list i d) → more ≡ insert_key edge_eq.eq-value.it edges edge
    → more ≡ edges_in literals untils new level (take (i + 1) list)
edges_step literals untils level list i d start old new edges more edge l e f g h k =
    let b = key_behind old (target untils level (get_or list i d)) in
    let leading : leads untils old level (take i list) ≡ true = subst (λ ks. leads untils ks level (take i list) ≡ true) (sym e) (leads_grown untils start level (take i list)) in
    let same : edges_in literals untils new level (take i list) ≡ edges_in literals untils old level (take i list) =
    ap (λ ks. edges_in literals untils ks level (take i list)) (f ∙ b.1) ∙ edges_kept literals untils old b.0 level (take i list) leading in
    k ∙ edges_put edges edge ∙ ap (λ es. insert_key same_edge es edge) (g ∙ sym same) ∙ ap (insert_key same_edge (edges_in literals untils new level (take i list))) h
    ∙ sym (ap (λ cs. edges_in literals untils new level cs) (take_more list i d l) ∙ ap (insert_all same_edge []) (map_push (edge_in literals untils new level) (take i list) (get_or list i d))
    ∙ fold_push (insert_key same_edge) [] (map (edge_in literals untils new level) (take i list)) (edge_in literals untils new level (get_or list i d)))

pub grown_all : (untils : List ℕ) (level : ℕ) (list : List CoverSets) (i : ℕ) (start old : List Spot) → length list ≤ i → old ≡ grown untils level (take i list) start → old ≡ grown untils level list start
grown_all untils level list i start old l e = e ∙ ap (λ cs. grown untils level cs start) (take_all i list l)

pub edges_all : (literals : List Literal) (untils : List ℕ) (level : ℕ) (list : List CoverSets) (i : ℕ) (spots : List Spot) (edges : List Edge) → length list ≤ i
    → edges ≡ edges_in literals untils spots level (take i list) → edges ≡ edges_in literals untils spots level list
edges_all literals untils level list i spots edges l e = e ∙ ap (edges_in literals untils spots level) (take_all i list l)

-- a limit that is passed within the list is passed at its end
pub many_grown : (untils : List ℕ) (level : ℕ) (list : List CoverSets) (i : ℕ) (d : CoverSets) (start old : List Spot) → i < length list → old ≡ grown untils level (take i list) start
    → 4096 < length (insert_key same_spot old (target untils level (get_or list i d))) → 4096 < length (grown untils level list start)
many_grown untils level list i d start old l e m =
    let all : List Spot = map (target untils level) list in
    let next : insert_key same_spot old (target untils level (get_or list i d)) ≡ grown untils level (take (i + 1) list) start = grown_step untils level list i d start old _ l e refl in
    let parts : grown untils level list start ≡ insert_all same_spot (grown untils level (take (i + 1) list) start) (map (target untils level) (drop (i + 1) list)) =
    ap (λ cs. grown untils level cs start) (sym (take-append-drop (i + 1) list)) ∙ ap (insert_all same_spot start) (map-append (target untils level) (take (i + 1) list) (drop (i + 1) list))
    ∙ fold_append (insert_key same_spot) start (map (target untils level) (take (i + 1) list)) (map (target untils level) (drop (i + 1) list)) in
    let b = keys_behind (grown untils level (take (i + 1) list) start) (map (target untils level) (drop (i + 1) list)) in
    let whole : length (grown untils level list start) ≡ length (grown untils level (take (i + 1) list) start) + length b.0 = ap length (parts ∙ b.1) ∙ length-append _ b.0 in
    let first : length (insert_key same_spot old (target untils level (get_or list i d))) ≡ length (grown untils level (take (i + 1) list) start) = ap length next in
    omega arith
  where
    fold_append : {A B : Type 0} (f : B → A → B) (z : B) (xs ys : List A) → fold f z (xs ++ ys) ≡ fold f (fold f z xs) ys
    fold_append f z [] ys = refl
    fold_append f z (x ∷ xs) ys = fold_append f (f z x) xs ys

pub cover_read : (xs : List BitCover) (i : ℕ) (x : BitCover) → i < length xs → x ≡ get_or xs i x → sets_of x ≡ get_or (covers_of xs) i (sets_of x)
cover_read xs i x l e = ap sets_of e ∙ sym (get_or-map sets_of xs i x (sets_of x) l)

pub err_many : {T : Type 0} (r : Result T TableauError) (e : TableauError) (P : Type 0) → IsErrAnd r (λ x. x ≡ e) → (e ≡ TooManyStates → P) → IfErr r (λ x. x ≡ TooManyStates → P)
err_many (Ok t) e P h k = tt
err_many (Err x) e P h k = λ i. k (sym h ∙ i)

pub err_wide : {T : Type 0} (r : Result T TableauError) (e : TableauError) (P : Type 0) → IsErrAnd r (λ x. x ≡ e) → (e ≡ TooWide → P) → IfErr r (λ x. x ≡ TooWide → P)
err_wide (Ok t) e P h k = tt
err_wide (Err x) e P h k = λ i. k (sym h ∙ i)
