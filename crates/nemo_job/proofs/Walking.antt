-- A walk over the sites of a job.
use Rattle.std.proofs.Common.{arith, ◌≡◌, ◌∙◌, refl, sym, ap, subst, ℕ, ◌+◌, ◌-◌, ◌^◌, ◌<◌, ◌≤◌, ◌==◌, ◌&&◌, ◌||◌, not, cond, min, nat_le, nat_lt, List, [], ◌∷◌, ◌++◌, Bool, true, false, length, map, take, drop, get_or, Option, Some, None, option_map, Result, Ok, Err, IfOk, length-take}
use Rattle.std.proofs.lemmas.List.{append_assoc, drop_all, drop_more, length-append, length-map, take_more, take-append-drop}
use Rattle.std.proofs.lemmas.List.Folds.{list_all-append}
use Rattle.std.specs.List.{list_all, list_any}
use Rattle.std.specs.Option.{option_or}
use denote.Ref.{Bor}
use Rattle.indexmap.specs.IndexMap.{IndexMap}
use Rattle.nemo_value.specs.Names.{is_name}
use Rattle.nemo_value.specs.Texts.{all_new}
use Rattle.nemo_transform.specs.Soundness.{is_few}
use Rattle.nemo_job.specs.ByName.{named_in}
use Rattle.nemo_job.specs.Refusals.{coded, first_where, has_double, has_name, is_bad_loop, is_end, is_forward, is_good, is_known, is_later, is_misfed, is_next_known}
use Rattle.nemo_job.specs.Sites.{Doing, Does, Loops, Face, Site, faces, port_face, sites, sites_after, standing, working}
use Rattle.nemo_job.specs.Walks.{HasFaces, IsFirst, Walked, WalkedAt, at_place, fails, first_of, gives, is_before, is_from, is_known_in, note, nothing, outer, seen, walk, with_body, with_inner}
use Rattle.nemo_job.specs.declared.refusals.Found.{Found}
use Rattle.nemo_job.specs.declared.scope.Named.{Named}
use Rattle.nemo_job.specs.declared.site.Fails.{Fails}
use Rattle.nemo_job.specs.declared.refusals.Code.{Code}
use Rattle.nemo_job.specs.declared.vertex.JobVertex.{JobVertex}
use Rattle.nemo_job.specs.declared.vertex.Ref.{Ref}
use Rattle.nemo_job.specs.declared.vertex.Work.{Work}
use Rattle.nemo_job.specs.declared.vertex.Work.TheVariants.{Loop}
use Rattle.nemo_job.proofs.Layers.{loop_works, vertex_stands}
use Rattle.nemo_job.proofs.PutFirst.{or_none}
use Rattle.nemo_job.proofs.Scoping.{before_is, from_is, port_is}

---- the sites of a list, vertex by vertex

abbrev faces_of : List JobVertex → List Face
faces_of vs = faces (map standing vs)

-- the sites of the vertices from a place on
abbrev pub left_at : List (List ℕ) → ℕ → ℕ → List JobVertex → List Site
left_at carry d i vs = sites_after (map port_face carry ++ faces_of (take i vs)) d (map standing (drop i vs))

-- the site of the vertex at a place
abbrev pub site_at : List (List ℕ) → ℕ → ℕ → List JobVertex → JobVertex → Site
site_at carry d i vs v = record {
  before = map port_face carry ++ faces_of (take i vs);
  from = faces_of (v ∷ drop (i + 1) vs);
  depth = d;
  name = v.name;
  inputs = v.inputs;
  doing = (working v.work).doing;
}

faces_join : (vs ws : List JobVertex) → faces_of (vs ++ ws) ≡ faces_of vs ++ faces_of ws
faces_join [] ws = refl
faces_join (v ∷ vs) ws = ap (λ fs. (standing v).face ∷ fs) (faces_join vs ws)

taken : (vs : List JobVertex) (i : ℕ) (v : JobVertex) → i < length vs → v ≡ get_or vs i v → take (i + 1) vs ≡ take i vs ++ v ∷ []
taken vs i v l is = take_more vs i v l ∙ ap (λ w. take i vs ++ w ∷ []) (sym is)

dropped : (vs : List JobVertex) (i : ℕ) (v : JobVertex) → i < length vs → v ≡ get_or vs i v → drop i vs ≡ v ∷ drop (i + 1) vs
dropped vs i v l is = drop_more vs i v l ∙ ap (λ w. w ∷ drop (i + 1) vs) (sym is)

pub left_more : (carry : List (List ℕ)) (d i : ℕ) (vs : List JobVertex) (v : JobVertex) → i < length vs → v ≡ get_or vs i v
    → left_at carry d i vs ≡ site_at carry d i vs v ∷ ((working v.work).sites d ++ left_at carry d (i + 1) vs)
left_more carry d i vs v l is =
    let before = map port_face carry ++ faces_of (take i vs) in
    let others = map standing (drop (i + 1) vs) in
    let next : before ++ (standing v).face ∷ [] ≡ map port_face carry ++ faces_of (take (i + 1) vs) =
    append_assoc (map port_face carry) (faces_of (take i vs)) ((standing v).face ∷ [])
    ∙ ap (λ fs. map port_face carry ++ fs) (sym (faces_join (take i vs) (v ∷ [])) ∙ ap faces_of (sym (taken vs i v l is))) in
    ap (λ ws. sites_after before d (map standing ws)) (dropped vs i v l is)
    ∙ ap (λ s. s.sites before (faces_of (v ∷ drop (i + 1) vs)) d ++ sites_after (before ++ (standing v).face ∷ []) d others) (vertex_stands v)
    ∙ ap (λ fs. site_at carry d i vs v ∷ ((working v.work).sites d ++ sites_after fs d others)) next

---- what fails at a site

whole : (carry : List (List ℕ)) (d i : ℕ) (vs : List JobVertex) (v : JobVertex) → i < length vs → v ≡ get_or vs i v
    → seen carry vs ≡ (site_at carry d i vs v).before ++ (site_at carry d i vs v).from
whole carry d i vs v l is =
    ap (λ ws. map port_face carry ++ faces_of ws) (sym (take-append-drop i vs))
    ∙ ap (λ fs. map port_face carry ++ fs) (faces_join (take i vs) (drop i vs))
    ∙ ap (λ ws. map port_face carry ++ (faces_of (take i vs) ++ faces_of ws)) (dropped vs i v l is)
    ∙ sym (append_assoc (map port_face carry) (faces_of (take i vs)) (faces_of (v ∷ drop (i + 1) vs)))

size : (carry : List (List ℕ)) (i : ℕ) (vs : List JobVertex) → i < length vs → length (map port_face carry ++ faces_of (take i vs)) ≡ length carry + i
size carry i vs l = omega (
  arith,
  length-append (map port_face carry) (faces_of (take i vs)),
  length-map carry port_face,
  length-map (map standing (take i vs)) (λ v. v.face),
  length-map (take i vs) standing,
  length-take i vs,
)

or_false : (b : Bool) → b ≡ (b || false)
or_false true = refl
or_false false = refl

and_true : (b : Bool) → not b ≡ not (b && true)
and_true true = refl
and_true false = refl

not_both : (b c : Bool) → (not b || not c) ≡ not (b && c)
not_both true c = refl
not_both false c = refl

completed : (doing : Doing) (o : Fails) (before known : Bool) (forward misfed bad_loop : Bool)
    → o.double ≡ before → o.unknown ≡ not known → o.forward ≡ forward → o.misfed ≡ misfed → o.bad_loop ≡ bad_loop
    → with_body doing o ≡ record { double = before || has_double doing; unknown = not (known && is_next_known doing); forward = forward; misfed = misfed; bad_loop = bad_loop }
completed (Does t) o before known forward misfed bad_loop d u f m b =
    λ k. record { double = (d ∙ or_false before) k; unknown = (u ∙ and_true known) k; forward = f k; misfed = m k; bad_loop = b k }
completed (Loops turns carry body next) o before known forward misfed bad_loop d u f m b = λ k. record {
  double = d k || not (all_new [] carry);
  unknown = (ap (λ x. x || not (is_next_known (Loops turns carry body next))) u ∙ not_both known (is_next_known (Loops turns carry body next))) k;
  forward = f k;
  misfed = m k;
  bad_loop = b k;
}

deep : (d depth : ℕ) → min d 3 ≡ depth → nat_lt depth 3 ≡ nat_lt d 3
deep d depth e = grind arith

good_at : (d depth : ℕ) (doing : Doing) → min d 3 ≡ depth → is_good depth doing ≡ is_good d doing
good_at d depth (Does t) e = refl
good_at d depth (Loops turns carry body next) e =
    ap (λ b. nat_le 1 turns && nat_le turns 64 && is_few (length carry) && length next == length carry && b && not (list_any (λ f. is_end f.transform) body)) (deep d depth e)

known_is : {S : Type 0} (scope : IndexMap (Bor (List ℕ)) Named S) (fs : List Face) (rs : List Ref) → HasFaces fs scope → list_all (is_known_in scope) rs ≡ list_all (is_known fs) rs
known_is scope fs rs has = λ k. list_all (λ r. one r k) rs
  where
    one : (r : Ref) → is_known_in scope r ≡ is_known fs r
    one r = ap (gives r.port) (has r.name) ∙ port_is r.name r.port 0 fs

later_is : {S : Type 0} (scope : IndexMap (Bor (List ℕ)) Named S) (n : ℕ) (s : Site) → HasFaces (s.before ++ s.from) scope → length s.before ≡ n
    → list_any (λ r. is_from n (named_in scope r.name)) s.inputs ≡ is_forward s
later_is scope n s has e = λ k. list_any (λ r. one r k) s.inputs
  where
    one : (r : Ref) → is_from n (named_in scope r.name) ≡ is_later s r
    one r = ap (is_from n) (has r.name) ∙ from_is r.name s.before s.from n e

pub fails_are : {S : Type 0} (scope : IndexMap (Bor (List ℕ)) Named S) (carry : List (List ℕ)) (d depth i : ℕ) (vs : List JobVertex) (v : JobVertex)
    → HasFaces (seen carry vs) scope → min d 3 ≡ depth → i < length vs → v ≡ get_or vs i v
    → with_body (working v.work).doing (outer scope (length carry + i) depth v) ≡ fails (site_at carry d i vs v)
fails_are scope carry d depth i vs v has e l is =
    let s = site_at carry d i vs v in
    let all : HasFaces (s.before ++ s.from) scope = subst (λ fs. HasFaces fs scope) (whole carry d i vs v l is) has in
    completed s.doing (outer scope (length carry + i) depth v) (list_any (has_name v.name) s.before)
    (list_all (is_known (s.before ++ s.from)) v.inputs) (is_forward s) (is_misfed s) (is_bad_loop s)
    (ap (is_before (length carry + i)) (all v.name) ∙ before_is v.name s.before s.from (length carry + i) (size carry i vs l))
    (ap not (known_is scope (s.before ++ s.from) v.inputs all))
    (later_is scope (length carry + i) s all (size carry i vs l))
    refl
    (ap not (good_at d depth s.doing e))

---- what is found

walk_join : (ss rs : List Site) (f : Found) → walk (ss ++ rs) f ≡ walk rs (walk ss f)
walk_join [] rs f = refl
walk_join (s ∷ ss) rs f = walk_join ss rs (note (fails s) f)

abbrev are_named : List Site → Bool
are_named ss = list_all (λ s. is_name s.name) ss

-- nothing is left
pub walked_all : (carry : List (List ℕ)) (d i : ℕ) (vs : List JobVertex) (f : Found) → length vs ≤ i → Walked (left_at carry d i vs) f f
walked_all carry d i vs f l =
    subst (λ ws. Walked (sites_after (map port_face carry ++ faces_of (take i vs)) d (map standing ws)) f f) (sym (drop_all i vs l)) (record { found = refl; named = refl })

-- a vertex and its body, and then the others
pub walked_more : (s : Site) (ss rs : List Site) (fs : Fails) (f g h : Found) → is_name s.name ≡ true → fs ≡ fails s
    → Walked ss (note fs f) g → Walked rs g h → Walked (s ∷ (ss ++ rs)) f h
walked_more s ss rs fs f g h name same a b = record {
  found = b.found ∙ ap (walk rs) a.found ∙ sym (walk_join ss rs (note fs f)) ∙ ap (λ x. walk (ss ++ rs) (note x f)) same;
  named = ap (λ c. c && are_named (ss ++ rs)) name ∙ list_all-append (λ r. is_name r.name) ss rs ∙ ap (λ c. c && are_named rs) a.named ∙ b.named;
}

-- a loop and its body
pub loop_walked : {S : Type 0} (scope : IndexMap (Bor (List ℕ)) Named S) (work : Work) (turns : ℕ) (carry : List (List ℕ)) (body : List JobVertex) (next : List Ref)
    (depth around : ℕ) (o inner : Fails) (f start end : Found)
    → work ≡ Loop turns carry body next → HasFaces (seen carry body) scope → inner ≡ with_inner (all_new [] carry) (list_all (is_known_in scope) next) o
    → start ≡ note inner f → around ≡ min depth 2 + 1
    → WalkedAt around (λ d. sites_after (map port_face carry) d (map standing body)) start end
    → WalkedAt depth (working work).sites (note (with_body (working work).doing o) f) end
loop_walked scope work turns carry body next depth around o inner f start end is has i s a w =
    let works = ap working is ∙ loop_works turns carry body next in
    let first = s ∙ ap (λ x. note x f) (i ∙ ap (λ k. with_inner (all_new [] carry) k o) (known_is scope (seen carry body) next has)) in
    subst (λ x. WalkedAt depth x.sites (note (with_body x.doing o) f) end) (sym works)
    (λ d e. subst (λ x. Walked (sites_after (map port_face carry) (d + 1) (map standing body)) x end) first (w (d + 1) (omega arith)))

---- the first of each code

coded_is : (code : Code) (o : Option ℕ) → at_place code (option_map (λ p. min p (2 ^ 64 - 1)) o) ≡ coded code o
coded_is code None = refl
coded_is code (Some p) = refl

module _ (P : Site → Bool) (get : Found → Option ℕ) (step : (s : Site) (f : Found) → get (note (fails s) f) ≡ first_of (get f) (P s) f.count) where
  abbrev places : Option ℕ → Option ℕ
  places o = option_map (λ p. min p (2 ^ 64 - 1)) o

  turn : (o : Option ℕ) (b : Bool) (k here : ℕ) (more : Option ℕ) → here ≡ min k (2 ^ 64 - 1)
      → option_or (first_of o b here) (places more) ≡ option_or o (places (cond b (Some k) more))
  turn (Some p) b k here more e = refl
  turn None true k here more e = ap Some e
  turn None false k here more e = refl

  counted : (n k top : ℕ) → n ≡ min k top → min (n + 1) top ≡ min (k + 1) top
  counted n k top e = omega arith

  noted : (ss : List Site) (f : Found) (k : ℕ) → f.count ≡ min k (2 ^ 64 - 1) → get (walk ss f) ≡ option_or (get f) (places (first_where P k ss))
  noted [] f k e = sym (or_none (get f))
  noted (s ∷ ss) f k e =
      noted ss (note (fails s) f) (k + 1) (counted f.count k (2 ^ 64 - 1) e)
      ∙ ap (λ o. option_or o (places (first_where P (k + 1) ss))) (step s f)
      ∙ turn (get f) (P s) k f.count (first_where P (k + 1) ss) e

  -- after a walk over all vertices
  pub is_first : (vs : List JobVertex) (start f : Found) → start ≡ nothing → get nothing ≡ None
      → WalkedAt 0 (λ d. sites_after [] d (map standing vs)) start f → IsFirst P (sites vs) (get f)
  is_first vs start f e none w code =
      let all = first_where P 0 (sites vs) in
      ap (at_place code)
      (ap get ((w 0 refl).found ∙ ap (walk (sites vs)) e) ∙ noted (sites vs) nothing 0 refl ∙ ap (λ o. option_or o (places all)) none) ∙ coded_is code all

pub ok_more : {T E : Type 0} (r : Result T E) (P Q : T → Type 0) → ((x : T) → P x → Q x) → IfOk r P → IfOk r Q
ok_more (Ok x) P Q h p = h x p
ok_more (Err e) P Q h p = tt
