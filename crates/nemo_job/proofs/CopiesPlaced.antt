-- The copies of a job are well placed, and none takes a sink.
use Rattle.std.proofs.Common.{◌≡◌, ◌∙◌, refl, sym, ap, subst, ℕ, zero, suc, ◌+◌, ◌==◌, List, [], ◌∷◌, ◌++◌, Bool, true, false, ◌&&◌, not, length, map, slice_get, option_map, Option, Some, None, nat_le, nat_lt, append_assoc}
use Rattle.std.proofs.lemmas.Bool.{eqb-true, not-false}
use Rattle.std.proofs.lemmas.List.{append-nil, length-map}
use Rattle.std.proofs.lemmas.Option.{slice_get-map}
use Rattle.std.proofs.lemmas.Simd.{map-map}
use Rattle.std.specs.Cmp.{first_so, second_so}
use Rattle.std.specs.List.{list_all, list_any}
use Rattle.nemo_transform.specs.Ports.{kinds_of}
use Rattle.nemo_transform.specs.Soundness.{is_few, is_sound}
use Rattle.nemo_transform.specs.declared.transform.Transform.{Transform}
use Rattle.nemo_job.specs.ByPlace.{Placed}
use Rattle.nemo_job.specs.Fitting.{does_fit}
use Rattle.nemo_job.specs.Held.{IsPlaced}
use Rattle.nemo_transform.specs.Sinks.{does_sink}
use Rattle.nemo_job.specs.Mean.{turn_path, turns_from}
use Rattle.nemo_job.specs.Refusals.{IsJob, gives_none, has_ports, is_end, is_good, is_known, is_next_known}
use Rattle.nemo_job.specs.Sites.{Doing, Does, Loops, Face, Standing, Working, face_of, faces, port_face, sites_after, standing, stands, working}
use Rattle.nemo_job.specs.Unrolled.{Copy, Fed, Scope, at_start, bound, each, fed_by, placed_copies, placed_copy, source_of, turn, unroll_vertex, unroll_work, unrolled}
use Rattle.nemo_job.specs.declared.vertex.JobVertex.{JobVertex}
use Rattle.nemo_job.specs.declared.vertex.Ref.{Ref}
use Rattle.nemo_job.specs.declared.vertex.Work.{Work}
use Rattle.nemo_job.specs.declared.vertex.Work.TheVariants.{Op, Loop}
use Rattle.nemo_job.proofs.FedCopies.{AllFed, AllTake, IsFed, Keeps, at_end, copy_fed, fed_one, keeps_all, keeps_one, keeps_twice, no_sink, places}
use Rattle.nemo_job.proofs.FineSites.{AllFine, IsFine, fine_left, fine_right, fine_sites}
use Rattle.nemo_job.proofs.Induction.{Each, each_one}
use Rattle.nemo_job.proofs.Layers.{loop_unrolled, loop_works, op_unrolled, op_works, vertex_stands, vertex_unrolled}
use Rattle.nemo_job.proofs.ScopeFaces.{Stands, all_known_before, all_known_take, ports_stand, stands_more}

abbrev loop_face : List ℕ → List (List ℕ) → Face
loop_face name carry = record { name = name; ports = length carry; transform = None }

-- what nothing refuses of what a vertex does
record IsFineWork (name : List ℕ) (inputs depth : ℕ) (d : Doing) : Type 0 where
  pub fit : does_fit name inputs d ≡ true
  pub next : is_next_known d ≡ true
  pub fed : has_ports inputs d ≡ true
  pub good : is_good depth d ≡ true

-- on these copies, a work gives to as many ports as its face has
record Gives (made : List Copy) (g : Fed) (face : Face) : Type 0 where
  pub keeps : Keeps made g.copies.made
  pub fed : AllFed g.copies.made
  pub size : length g.ports ≡ face.ports
  pub takes : gives_none face.transform ≡ false → AllTake g.copies.made g.ports

-- on these copies, a scope has come to names with these faces
record IsScope (made : List Copy) (s : Scope) (fs : List Face) : Type 0 where
  pub keeps : Keeps made s.copies.made
  pub fed : AllFed s.copies.made
  pub stand : Stands s.copies.made s.names fs

-- a work gives, where nothing refuses it and all its ports take
abbrev OnWork : Working → (List ℕ → Fed → Fed) → Type 0
OnWork w u = (path name : List ℕ) (depth : ℕ) (f : Fed) → IsFineWork name (length f.ports) depth w.doing → AllFine (w.sites depth)
    → AllFed f.copies.made → AllTake f.copies.made f.ports → Gives f.copies.made (u path f) (face_of name w.doing)

abbrev WorkPlaced : Work → Type 0
WorkPlaced w = OnWork (working w) (unroll_work w)

-- a vertex comes to one name more, where nothing refuses it
abbrev OnVertex : Standing → (List ℕ → Scope → Scope) → Type 0
OnVertex v u = (path : List ℕ) (before from : List Face) (depth : ℕ) (s : Scope) → AllFine (v.sites before from depth)
    → AllFed s.copies.made → Stands s.copies.made s.names before → IsScope s.copies.made (u path s) (before ++ v.face ∷ [])

abbrev VertexPlaced : JobVertex → Type 0
VertexPlaced v = OnVertex (standing v) (unroll_vertex v)

---- an operation

op_placed : (t : Transform) → WorkPlaced (Op t)
op_placed t = subst (λ w. OnWork w (unroll_work (Op t))) (sym (op_works t)) on
  where
    on : OnWork (record { doing = Does t; sites = λ depth. [] }) (unroll_work (Op t))
    on path name depth f fine sites fed takes =
        let made = f.copies.made in
        let c : Copy = record { path = path; number = f.copies.next; transform = t; inputs = places f.ports (length made) } in
        subst (λ g. Gives made g (face_of name (Does t))) (sym (op_unrolled t path f)) (record {
          keeps = keeps_one made c;
          fed = fed_one made c fed (copy_fed made name path f.copies.next t f.ports fine.fit fine.fed takes);
          size = refl;
          takes = λ rows. ((c, at_end made c, no_sink t rows), tt);
        })

---- a loop

-- vertices in list order
all_placed : (vs : List JobVertex) → Each VertexPlaced vs → (path : List ℕ) (before : List Face) (depth : ℕ) (s : Scope) → AllFine (sites_after before depth (map standing vs))
    → AllFed s.copies.made → Stands s.copies.made s.names before
    → IsScope s.copies.made (each (map (λ v. v path) (map unroll_vertex vs)) s) (before ++ faces (map standing vs))
all_placed [] so path before depth s fine fed stand = record {
  keeps = keeps_all s.copies.made;
  fed = fed;
  stand = subst (Stands s.copies.made s.names) (sym (append-nil before)) stand;
}
all_placed (v ∷ vs) so path before depth s fine fed stand =
    let from = faces (map standing (v ∷ vs)) in
    let up = before ++ (standing v).face ∷ [] in
    let here = (standing v).sites before from depth in
    let later = sites_after up depth (map standing vs) in
    let one : IsScope s.copies.made (unroll_vertex v path s) up = so.0 path before from depth s (fine_left here later fine) fed stand in
    let t = unroll_vertex v path s in
    let end = each (map (λ v. v path) (map unroll_vertex vs)) t in
    let more : IsScope t.copies.made end (up ++ faces (map standing vs)) = all_placed vs so.1 path up depth t (fine_right here later fine) one.fed one.stand in
    record {
      keeps = keeps_twice s.copies.made t.copies.made end.copies.made one.keeps more.keeps;
      fed = more.fed;
      stand = subst (Stands end.copies.made end.names) (append_assoc before ((standing v).face ∷ []) (faces (map standing vs))) more.stand;
    }

-- what each turn gives stands after all
turns_kept : (made : List Copy) (face : Face) (step : ℕ → Fed → Fed) → ((i : ℕ) (f : Fed) → Gives made f face → Gives made (step i f) face)
    → (i turns : ℕ) (f : Fed) → Gives made f face → Gives made (turns_from i turns step f) face
turns_kept made face step so i zero f h = h
turns_kept made face step so i (suc turns) f h = turns_kept made face step so (i + 1) turns (step i f) (so i f h)

turn_placed : (made : List Copy) (name path : List ℕ) (depth first : ℕ) (carry : List (List ℕ)) (body : List JobVertex) (next : List Ref) (f : Fed)
    → Each VertexPlaced body → AllFine (sites_after (map port_face carry) depth (map standing body))
    → list_all (is_known (map port_face carry ++ faces (map standing body))) next ≡ true → length next ≡ length carry
    → Gives made f (loop_face name carry) → Gives made (turn first carry (map unroll_vertex body) next path f) (loop_face name carry)
turn_placed made name path depth first carry body next f so fine known same h =
    let start : Scope = record { copies = record { made = f.copies.made; next = first }; names = bound f.ports carry } in
    let end = each (map (λ v. v path) (map unroll_vertex body)) start in
    let fs = map port_face carry ++ faces (map standing body) in
    let one : IsScope f.copies.made end fs = all_placed body so path (map port_face carry) depth start fine h.fed (ports_stand f.copies.made f.ports carry h.size (h.takes refl)) in
    record {
      keeps = keeps_twice made f.copies.made end.copies.made h.keeps one.keeps;
      fed = one.fed;
      size = length-map next (source_of end.names) ∙ same;
      takes = λ rows. all_known_take end.copies.made end.names fs next one.stand known;
    }

fourth : (a b c d e f : Bool) → (a && b && c && d && e && f) ≡ true → d ≡ true
fourth a b c d e f h = second_so (a && b && c) d (first_so (a && b && c && d) e (first_so (a && b && c && d && e) f h))

loop_placed : (turns : ℕ) (carry : List (List ℕ)) (body : List JobVertex) (next : List Ref) → Each VertexPlaced body → WorkPlaced (Loop turns carry body next)
loop_placed turns carry body next so = subst (λ w. OnWork w (unroll_work (Loop turns carry body next))) (sym (loop_works turns carry body next)) on
  where
    standings : List Standing
    standings = map standing body

    on : OnWork (record { doing = Loops turns carry (faces standings) next; sites = λ depth. sites_after (map port_face carry) (depth + 1) standings }) (unroll_work (Loop turns carry body next))
    on path name depth f fine sites fed takes =
        let made = f.copies.made in
        let face = loop_face name carry in
        let step : ℕ → Fed → Fed = λ i. turn f.copies.next carry (map unroll_vertex body) next (turn_path path i) in
        let same : length next ≡ length carry =
        eqb-true (length next) (length carry)
        (fourth (nat_le 1 turns) (nat_le turns 64) (is_few (length carry)) (length next == length carry) (nat_lt depth 3) (not (list_any (λ f. is_end f.transform) (faces standings))) fine.good) in
        let start : Gives made f face = record { keeps = keeps_all made; fed = fed; size = eqb-true (length f.ports) (length carry) fine.fed; takes = λ rows. takes } in
        subst (λ g. Gives made g face) (sym (loop_unrolled turns carry body next path f))
        (turns_kept made face step (λ i g h. turn_placed made name (turn_path path i) (depth + 1) f.copies.next carry body next g so sites fine.next same h) 0 turns f start)

---- a vertex

face_name : (name : List ℕ) (d : Doing) → (face_of name d).name ≡ name
face_name name (Does t) = refl
face_name name (Loops turns carry body next) = refl

vertex_placed : (v : JobVertex) → WorkPlaced v.work → VertexPlaced v
vertex_placed v work = subst (λ w. OnVertex w (unroll_vertex v)) (sym (vertex_stands v)) on
  where
    on : OnVertex (stands v.name v.inputs (working v.work)) (unroll_vertex v)
    on path before from depth s fine fed stand =
        let f = fed_by v.inputs s in
        let d = (working v.work).doing in
        let is : IsFine (record { before = before; from = from; depth = depth; name = v.name; inputs = v.inputs; doing = d }) = fine.0 in
        let both = not-false (list_all (is_known (before ++ from)) v.inputs && is_next_known d) is.known in
        let known : list_all (is_known before) v.inputs ≡ true =
        all_known_before before from v.inputs (first_so (list_all (is_known (before ++ from)) v.inputs) (is_next_known d) both) is.back in
        let size : length f.ports ≡ length v.inputs = length-map v.inputs (source_of s.names) in
        let fine_work : IsFineWork v.name (length f.ports) depth d = subst (λ n. IsFineWork v.name n depth d) (sym size) (record {
          fit = is.fitting;
          next = second_so (list_all (is_known (before ++ from)) v.inputs) (is_next_known d) both;
          fed = not-false (has_ports (length v.inputs) d) is.fed;
          good = not-false (is_good depth d) is.good;
        }) in
        let g = unroll_work v.work (path ++ v.name) f in
        let gives : Gives s.copies.made g (face_of v.name d) = work (path ++ v.name) v.name depth f fine_work fine.1 fed (all_known_take s.copies.made s.names before v.inputs stand known) in
        subst (λ t. IsScope s.copies.made t (before ++ face_of v.name d ∷ [])) (sym (vertex_unrolled v path s)) (record {
          keeps = gives.keeps;
          fed = gives.fed;
          stand = stands_more s.copies.made g.copies.made gives.keeps s.names before (record { name = v.name; ports = g.ports }) (face_of v.name d) stand
              (record { name = sym (face_name v.name d); size = gives.size; takes = gives.takes });
        })

---- a job

made_fed : (vs : List JobVertex) → IsJob vs → AllFed (unrolled vs)
made_fed vs h =
    let so : Each VertexPlaced vs = each_one WorkPlaced VertexPlaced op_placed loop_placed vertex_placed vs in
    let none : AllFed [] = record { each = λ i c e. cc } in
    subst (λ us. AllFed (each us at_start).copies.made) (map-map (λ v. v []) unroll_vertex vs) (all_placed vs so [] [] 0 at_start (fine_sites vs h) none tt).fed

mapped : {X Y : Type 0} (f : X → Y) (o : Option X) (y : Y) → option_map f o ≡ Some y → (x : X) × (o ≡ Some x) × (f x ≡ y)
mapped f None y h = cc
mapped f (Some x) y h = (x, refl, cc)

pub unrolled_placed : (vs : List JobVertex) → IsJob vs → IsPlaced (placed_copies vs)
unrolled_placed vs h = record {
  lower = λ i p k j at input. let c = copy i p at in (fed i c.0 c.1).lower k j (ap (λ q. slice_get q.inputs k) c.2 ∙ input);
  ports = λ i p at. let c = copy i p at in subst (λ q. length q.inputs ≡ length (kinds_of q.transform)) c.2 (fed i c.0 c.1).ports;
  sound = λ i p at. let c = copy i p at in subst (λ q. is_sound q.transform ≡ true) c.2 (fed i c.0 c.1).sound;
}
  where
    copy : (i : ℕ) (p : Placed) → slice_get (placed_copies vs) i ≡ Some p → (c : Copy) × (slice_get (unrolled vs) i ≡ Some c) × (placed_copy c ≡ p)
    copy i p at = mapped placed_copy (slice_get (unrolled vs) i) p (sym (slice_get-map placed_copy (unrolled vs) i) ∙ at)

    fed : (i : ℕ) (c : Copy) → slice_get (unrolled vs) i ≡ Some c → IsFed (unrolled vs) i c
    fed = (made_fed vs h).each

-- no copy takes a sink
pub unrolled_feeds : (vs : List JobVertex) → IsJob vs → (i k j : ℕ) (c d : Copy) → slice_get (unrolled vs) i ≡ Some c → slice_get c.inputs k ≡ Some j
    → slice_get (unrolled vs) j ≡ Some d → does_sink d.transform ≡ false
unrolled_feeds vs h i k j c d at input there =
    let rows = ((made_fed vs h).each i c at).rows k j input in
    let is : rows.0 ≡ d = cc (rows.1, there) in
    subst (λ e. does_sink e.transform ≡ false) is rows.2
