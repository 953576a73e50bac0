-- What a vertex gives doesn't depend on what vertices are called.
use Rattle.std.proofs.Common.{◌≡◌, ◌∙◌, refl, ap, sym, ℕ, List, [], ◌∷◌, ◌++◌, map}
use Rattle.std.proofs.Math.ListN.{get_or-map}
use Rattle.std.proofs.lemmas.List.{map-append}
use Rattle.nemo_transform.specs.Brought.{Arisen, Brought, all_faults, all_rows, arisen, at, blocking, brought_by, first_rows, nothing, port}
use Rattle.nemo_transform.specs.Gives.{Answer, answers, rows_in, own_faults}
use Rattle.nemo_transform.specs.Ports.{kinds_of}
use Rattle.nemo_transform.specs.declared.shape.PortKind.{PortKind}
use Rattle.nemo_transform.specs.declared.shape.PortKind.TheVariants.{Main, Keyed, Side}
use Rattle.nemo_transform.specs.declared.fault.Fault.{Fault}
use Rattle.nemo_transform.specs.declared.transform.Transform.{Transform}
use Rattle.nemo_transform.specs.declared.transform.Transform.TheVariants.{Union}

-- a fault with its vertex called otherwise
abbrev pub renamed_fault : {X Y : Type 0} → (X → Y) → Arisen X → Arisen Y
renamed_fault f a = record { vertex = f a.vertex; kind = a.kind; rec = a.rec }

abbrev pub renamed : {X Y : Type 0} → (X → Y) → Brought X → Brought Y
renamed f b = record { rows = b.rows; faults = map (renamed_fault f) b.faults }

module _ {X Y : Type 0} (f : X → Y) where
  pub port_renamed : (ports : List (Brought X)) (k : ℕ) → port (map (renamed f) ports) k ≡ renamed f (port ports k)
  port_renamed ports k = get_or-map (renamed f) ports k nothing

  rows_renamed : (ports : List (Brought X)) → all_rows (map (renamed f) ports) ≡ all_rows ports
  rows_renamed [] = refl
  rows_renamed (b ∷ ports) = ap (λ rows. b.rows ++ rows) (rows_renamed ports)

  first_renamed : (t : Transform) (ports : List (Brought X)) → first_rows t (map (renamed f) ports) ≡ first_rows t ports
  first_renamed (Union n) ports = rows_renamed ports
  first_renamed _ ports = ap (λ (b : Brought Y). b.rows) (port_renamed ports 0)

  faults_renamed : (ports : List (Brought X)) → all_faults (map (renamed f) ports) ≡ map (renamed_fault f) (all_faults ports)
  faults_renamed [] = refl
  faults_renamed (b ∷ ports) = ap (λ faults. map (renamed_fault f) b.faults ++ faults) (faults_renamed ports) ∙ sym (map-append (renamed_fault f) b.faults (all_faults ports))

  blocking_renamed : (ks : List PortKind) (ports : List (Brought X)) → blocking ks (map (renamed f) ports) ≡ map (renamed_fault f) (blocking ks ports)
  blocking_renamed [] ports = refl
  blocking_renamed (Main ∷ ks) [] = refl
  blocking_renamed (Keyed ∷ ks) [] = refl
  blocking_renamed (Side ∷ ks) [] = refl
  blocking_renamed (Main ∷ ks) (b ∷ ports) = blocking_renamed ks ports
  blocking_renamed (Keyed ∷ ks) (b ∷ ports) = ap (λ faults. map (renamed_fault f) b.faults ++ faults) (blocking_renamed ks ports) ∙ sym (map-append (renamed_fault f) b.faults (blocking ks ports))
  blocking_renamed (Side ∷ ks) (b ∷ ports) = ap (λ faults. map (renamed_fault f) b.faults ++ faults) (blocking_renamed ks ports) ∙ sym (map-append (renamed_fault f) b.faults (blocking ks ports))

  own_renamed : (x : X) (faults : List Fault) → map (arisen (f x)) faults ≡ map (renamed_fault f) (map (arisen x) faults)
  own_renamed x [] = refl
  own_renamed x (a ∷ faults) = ap (λ more. arisen (f x) a ∷ more) (own_renamed x faults)

  by_renamed : (x : X) (blocked passed : List (Arisen X)) (given : List Answer) → brought_by (f x) (map (renamed_fault f) blocked) (map (renamed_fault f) passed) given ≡ renamed f (brought_by x blocked passed given)
  by_renamed x [] passed given =
      ap (λ faults. record { rows = rows_in given; faults = faults })
      (ap (λ own. map (renamed_fault f) passed ++ own) (own_renamed x (own_faults given)) ∙ sym (map-append (renamed_fault f) passed (map (arisen x) (own_faults given))))
  by_renamed x (b ∷ bs) passed given = refl

  pub at_renamed : (x : X) (t : Transform) (ports : List (Brought X)) → at (f x) t (map (renamed f) ports) ≡ renamed f (at x t ports)
  at_renamed x t ports =
      (λ i. brought_by (f x) (blocking_renamed (kinds_of t) ports i) (faults_renamed ports i) (answers t (first_renamed t ports i) (port_renamed ports 1 i).rows))
      ∙ by_renamed x (blocking (kinds_of t) ports) (all_faults ports) (answers t (first_rows t ports) (port ports 1).rows)
