-- The derived order of faults is the stated one, which is total and tells different faults apart.
use Rattle.std.proofs.Common.{◌≡◌, ap, refl}
use Rattle.std.specs.Cmp.{IsTotalOrder, nat_cmp_total, on_total, partial_order_from_total, then_agrees, then_po, total}
use Rattle.std.specs.FinMap.{IsAntisymmetric}
use Rattle.std.specs.Ordering.{ordering_then}
use Rattle.std.specs.declared.cmp.Ordering.{Ordering}
use Rattle.std.specs.declared.cmp.Ordering.TheVariants.{Less, Equal, Greater}
use Rattle.nemo_value.proofs.KindPlaces.{kind_cmp_is, kind_one}
use Rattle.nemo_value.proofs.RecordOrder.{record_strict}
use Rattle.nemo_value.proofs.SortedLists.{IsStrict}
use Rattle.nemo_value.specs.KindOrder.{kind_cmp, kind_place}
use Rattle.nemo_value.specs.Order.{record_cmp}
use Rattle.nemo_transform.specs.FaultOrder.{fault_cmp}
use Rattle.nemo_transform.specs.declared.fault.Fault.{Fault}
use Rattle.nemo_transform.specs.contracts.fault.FaultOrd.TheImpl.{ghosts}

abbrev pub derived_cmp : Fault → Fault → Ordering
derived_cmp = ghosts.cmp

fault_cmp_is : (a b : Fault) → derived_cmp a b ≡ fault_cmp a b
fault_cmp_is a b = ap (λ r. ordering_then r (record_cmp a.rec b.rec)) (kind_cmp_is a.kind b.kind)

pub one_order : derived_cmp ≡ fault_cmp
one_order = λ i a b. fault_cmp_is a b i

fault_total : IsTotalOrder fault_cmp
fault_total =
    total (then_po (partial_order_from_total (on_total (λ (f : Fault). kind_place f.kind) nat_cmp_total)) (partial_order_from_total (on_total (λ (f : Fault). f.rec) record_strict.total)))
    (then_agrees (λ a b. refl) (λ a b. refl))

-- the first of two orders ties where both do, and then the second does
pub first_ties : (r s : Ordering) → ordering_then r s ≡ Equal → r ≡ Equal
first_ties Less s h = h
first_ties Equal s h = refl
first_ties Greater s h = h

pub second_ties : (r s : Ordering) → ordering_then r s ≡ Equal → s ≡ Equal
second_ties Less s h = cc
second_ties Equal s h = h
second_ties Greater s h = cc

fault_one : IsAntisymmetric fault_cmp
fault_one a b h =
    let kinds : a.kind ≡ b.kind = kind_one a.kind b.kind (first_ties (kind_cmp a.kind b.kind) (record_cmp a.rec b.rec) h) in
    let records : a.rec ≡ b.rec = record_strict.one a.rec b.rec (second_ties (kind_cmp a.kind b.kind) (record_cmp a.rec b.rec) h) in
    λ i. record { kind = kinds i; rec = records i }

pub fault_strict : IsStrict fault_cmp
fault_strict = record { total = fault_total; one = fault_one }
