-- How a job ends, from what its sinks got.
use Rattle.std.proofs.Common.{◌≡◌, ◌∙◌, refl, sym, ap, subst, ℕ, ◌<◌, List, [], ◌∷◌, map, length, Option, Some, None, true, inl, inr}
use Rattle.std.proofs.lemmas.List.{length-map}
use Rattle.std.specs.Prelude.{slice_get, option_map}
use Rattle.nemo_value.specs.Ascending.{ascending}
use Rattle.nemo_value.specs.Sorting.{sorted}
use Rattle.nemo_value.specs.Texts.{all_new}
use Rattle.nemo_value.specs.declared.record.SinkRows.{SinkRows}
use Rattle.nemo_value.specs.SinkOrder.{by_name, with_sorted}
use Rattle.nemo_value.proofs.AscendingLists.{in_ascending}
use Rattle.nemo_value.proofs.Members.{In}
use Rattle.nemo_transform.specs.Brought.{Arisen}
use Rattle.nemo_transform.specs.FirstFault.{first_fault, arisen_at}
use Rattle.nemo_transform.specs.ArisenOrder.{place_cmp}
use Rattle.nemo_transform.specs.declared.fault.Located.{Located}
use Rattle.nemo_transform.proofs.FirstFaults.{place_strict}
use Rattle.nemo_job.specs.ByPlace.{values}
use Rattle.nemo_job.specs.Ends.{IsEndOf, by_path, fault_end}
use Rattle.nemo_job.specs.Held.{faults_given, node_of, sinks_given}
use Rattle.nemo_job.specs.Nodes.{copy_of}
use Rattle.nemo_job.specs.Refusals.{IsJob}
use Rattle.nemo_job.specs.Sinks.{job_faults, job_rows}
use Rattle.nemo_job.specs.Unrolled.{placed_copies, placed_copy, unrolled}
use Rattle.nemo_job.specs.declared.copies.Node.{Node}
use Rattle.nemo_job.specs.declared.evaluate.JobEnd.{JobEnd}
use Rattle.nemo_job.specs.declared.vertex.JobVertex.{JobVertex}
use Rattle.nemo_job.proofs.CopyFaults.{Below, first_copied, low_faults, none_copied}
use Rattle.nemo_job.proofs.CopySinks.{rows_copied, sinks_apart}
use Rattle.nemo_job.proofs.PathsApart.{place_of_copy}
use Rattle.nemo_job.proofs.UnrolledMean.{mean_unrolled}

---- the copies as an evaluation has them

placed_nodes : (nodes : List Node) → map placed_copy (map copy_of nodes) ≡ map node_of nodes
placed_nodes [] = refl
placed_nodes (n ∷ nodes) = ap (λ ps. node_of n ∷ ps) (placed_nodes nodes)

pub nodes_placed : (vs : List JobVertex) (nodes : List Node) → map copy_of nodes ≡ unrolled vs → map node_of nodes ≡ placed_copies vs
nodes_placed vs nodes made = sym (placed_nodes nodes) ∙ ap (map placed_copy) made

-- there are as many as copies
pub nodes_counted : (vs : List JobVertex) (nodes : List Node) → map copy_of nodes ≡ unrolled vs → length (unrolled vs) ≡ length nodes
nodes_counted vs nodes made = ap length (sym made) ∙ length-map nodes copy_of

---- what the sinks got

-- what the sinks of a job got
pub record IsCollected (vs : List JobVertex) (sinks : List SinkRows) (first : Option Located) : Type 0 where
  pub sinks_are : sinks ≡ map with_sorted (sinks_given (placed_copies vs) (values (placed_copies vs)))
  pub first_is : option_map arisen_at first ≡ first_fault (faults_given (placed_copies vs) (values (placed_copies vs)))

-- what code has of it: the nodes of the copies, and what was collected over them
pub collected_by : (vs : List JobVertex) (slice nodes : List Node) (sinks : List SinkRows) (first known : Option Located) → slice ≡ nodes → map copy_of nodes ≡ unrolled vs
    → sinks ≡ map with_sorted (sinks_given (map node_of slice) (values (map node_of slice))) → option_map arisen_at first ≡ first_fault (faults_given (map node_of slice) (values (map node_of slice))) → first ≡ known → IsCollected vs sinks known
collected_by vs slice nodes sinks first known same made s f is =
    let ps : map node_of slice ≡ placed_copies vs = ap (map node_of) same ∙ nodes_placed vs nodes made in
    record {
      sinks_are = s ∙ ap (λ l. map with_sorted (sinks_given l (values l))) ps;
      first_is = sym (ap (option_map arisen_at) is) ∙ f ∙ ap (λ l. first_fault (faults_given l (values l))) ps;
    }

below_in : (n : ℕ) (a : Arisen ℕ) (faults : List (Arisen ℕ)) → Below n faults → In a faults → a.vertex < n
below_in n a [] h m = absurd m
below_in n a (b ∷ faults) h (inl e) = subst (λ c. c.vertex < n) (sym e) h.0
below_in n a (b ∷ faults) h (inr m) = below_in n a faults h.1 m

first_in : {X : Type 0} (x : X) (xs : List X) → slice_get xs 0 ≡ Some x → In x xs
first_in x [] e = cc
first_in x (y ∷ xs) e = inl (cc)

same_names : (sinks : List SinkRows) → map (λ s. s.name) (map with_sorted sinks) ≡ map (λ s. s.name) sinks
same_names [] = refl
same_names (s ∷ sinks) = ap (λ names. s.name ∷ names) (same_names sinks)

module _ (vs : List JobVertex) (h : IsJob vs) where
  -- the first fault is at a copy
  pub fault_below : (sinks : List SinkRows) (fault : Located) → IsCollected vs sinks (Some fault) → fault.place < length (unrolled vs)
  fault_below sinks fault got =
      let faults = faults_given (placed_copies vs) (values (placed_copies vs)) in
      let there : In (arisen_at fault) (ascending place_cmp faults) = first_in (arisen_at fault) (ascending place_cmp faults) (sym got.first_is) in
      below_in (length (unrolled vs)) (arisen_at fault) faults (low_faults vs h (mean_unrolled vs)) ((in_ascending place_cmp place_strict faults (arisen_at fault)).0 there)

  pub end_is : (sinks : List SinkRows) (fault : Located) (end : JobEnd) → IsCollected vs sinks (Some fault) → end ≡ fault_end (by_path vs (arisen_at fault)) → IsEndOf vs end
  end_is sinks fault end got is =
      subst (IsEndOf vs) (sym is) (first_copied vs h (mean_unrolled vs) (place_of_copy vs h) ∙ ap (option_map (by_path vs)) (sym got.first_is))

  pub names_apart : (sinks : List SinkRows) (first : Option Located) → IsCollected vs sinks first → all_new [] (map (λ s. s.name) sinks) ≡ true
  names_apart sinks first got =
      ap (λ l. all_new [] (map (λ s. s.name) l)) got.sinks_are ∙ ap (all_new []) (same_names (sinks_given (placed_copies vs) (values (placed_copies vs)))) ∙ sinks_apart vs h (mean_unrolled vs)

  pub rows_are : (sinks rows : List SinkRows) (first : Option Located) → IsCollected vs sinks first → rows ≡ sorted by_name sinks → rows ≡ job_rows vs
  rows_are sinks rows first got is = is ∙ ap (sorted by_name) got.sinks_are ∙ sym (rows_copied vs h (mean_unrolled vs))

  pub no_faults : (sinks : List SinkRows) → IsCollected vs sinks None → job_faults vs ≡ []
  no_faults sinks got = none_copied vs h (mean_unrolled vs) (place_of_copy vs h) (sym got.first_is)
