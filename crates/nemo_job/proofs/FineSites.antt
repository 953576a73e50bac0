-- What holds at each site of a job.
use Rattle.std.proofs.Common.{◌≡◌, refl, ℕ, ◌+◌, List, [], ◌∷◌, ◌++◌, Bool, true, false, cond, Option, Some, None}
use Rattle.std.specs.Cmp.{first_so, second_so}
use Rattle.std.specs.List.{list_all}
use Rattle.std.specs.Option.{option_or}
use Rattle.nemo_value.specs.Names.{is_name}
use Rattle.nemo_job.specs.Fitting.{is_fitting}
use Rattle.nemo_job.specs.Refusals.{IsJob, coded, first_where, found, is_bad_loop, is_double, is_forward, is_misfed, names_unknown, sinkless}
use Rattle.nemo_job.specs.Sites.{Site, sites}
use Rattle.nemo_job.specs.declared.refusals.Code.{Code}
use Rattle.nemo_job.specs.declared.refusals.Code.TheVariants.{DoubleName, UnknownInput, Forward, PortCount, BadLoop, NoSink}
use Rattle.nemo_job.specs.declared.vertex.JobVertex.{JobVertex}

-- nothing is refused at a site
pub record IsFine (s : Site) : Type 0 where
  pub named : is_name s.name ≡ true
  pub fitting : is_fitting s ≡ true
  pub single : is_double s ≡ false
  pub known : names_unknown s ≡ false
  pub back : is_forward s ≡ false
  pub fed : is_misfed s ≡ false
  pub good : is_bad_loop s ≡ false

abbrev pub AllFine : List Site → Type 0
AllFine [] = Unit {0}
AllFine (s ∷ ss) = IsFine s × AllFine ss

-- those of two lists
pub fine_left : (xs ys : List Site) → AllFine (xs ++ ys) → AllFine xs
fine_left [] ys h = tt
fine_left (x ∷ xs) ys h = (h.0, fine_left xs ys h.1)

pub fine_right : (xs ys : List Site) → AllFine (xs ++ ys) → AllFine ys
fine_right [] ys h = h
fine_right (x ∷ xs) ys h = fine_right xs ys h.1

neither : {X : Type 0} (a b : Option X) → option_or a b ≡ None → (a ≡ None) × (b ≡ None)
neither None b h = (refl, h)
neither (Some x) b h = cc

uncoded : (code : Code) (place : Option ℕ) → coded code place ≡ None → place ≡ None
uncoded code None h = refl
uncoded code (Some p) h = cc

nowhere : (P : Site → Bool) (i : ℕ) (s : Site) (ss : List Site) → first_where P i (s ∷ ss) ≡ None → (P s ≡ false) × (first_where P (i + 1) ss ≡ None)
nowhere P i s ss h = go (P s) h
  where
    go : (b : Bool) → cond b (Some i) (first_where P (i + 1) ss) ≡ None → (b ≡ false) × (first_where P (i + 1) ss ≡ None)
    go true h = cc
    go false h = (refl, h)

all_fine : (i : ℕ) (ss : List Site) → list_all (λ s. is_name s.name) ss ≡ true → list_all is_fitting ss ≡ true
    → first_where is_double i ss ≡ None → first_where names_unknown i ss ≡ None → first_where is_forward i ss ≡ None → first_where is_misfed i ss ≡ None → first_where is_bad_loop i ss ≡ None
    → AllFine ss
all_fine i [] named fitting double unknown forward misfed bad = tt
all_fine i (s ∷ ss) named fitting double unknown forward misfed bad =
    let d = nowhere is_double i s ss double in
    let u = nowhere names_unknown i s ss unknown in
    let f = nowhere is_forward i s ss forward in
    let m = nowhere is_misfed i s ss misfed in
    let b = nowhere is_bad_loop i s ss bad in (
      record {
        named = first_so (is_name s.name) (list_all (λ s. is_name s.name) ss) named;
        fitting = first_so (is_fitting s) (list_all is_fitting ss) fitting;
        single = d.0;
        known = u.0;
        back = f.0;
        fed = m.0;
        good = b.0;
      },
      all_fine (i + 1) ss (second_so (is_name s.name) (list_all (λ s. is_name s.name) ss) named) (second_so (is_fitting s) (list_all is_fitting ss) fitting) d.1 u.1 f.1 m.1 b.1,
    )

module _ (vs : List JobVertex) (h : IsJob vs) where
  -- of each code the first place, and what comes after it
  none_found : (first_where is_double 0 (sites vs) ≡ None) × (first_where names_unknown 0 (sites vs) ≡ None) × (first_where is_forward 0 (sites vs) ≡ None)
      × (first_where is_misfed 0 (sites vs) ≡ None) × (first_where is_bad_loop 0 (sites vs) ≡ None) × (sinkless vs ≡ None)
  none_found =
      let ss = sites vs in
      let bad = option_or (found BadLoop is_bad_loop ss) (coded NoSink (sinkless vs)) in
      let misfed = option_or (found PortCount is_misfed ss) bad in
      let forward = option_or (found Forward is_forward ss) misfed in
      let unknown = option_or (found UnknownInput names_unknown ss) forward in
      let a = neither (found DoubleName is_double ss) unknown h.fine in
      let b = neither (found UnknownInput names_unknown ss) forward a.1 in
      let c = neither (found Forward is_forward ss) misfed b.1 in
      let d = neither (found PortCount is_misfed ss) bad c.1 in
      let e = neither (found BadLoop is_bad_loop ss) (coded NoSink (sinkless vs)) d.1 in (
        uncoded DoubleName (first_where is_double 0 ss) a.0,
        uncoded UnknownInput (first_where names_unknown 0 ss) b.0,
        uncoded Forward (first_where is_forward 0 ss) c.0,
        uncoded PortCount (first_where is_misfed 0 ss) d.0,
        uncoded BadLoop (first_where is_bad_loop 0 ss) e.0,
        uncoded NoSink (sinkless vs) e.1,
      )

  pub fine_sites : AllFine (sites vs)
  fine_sites =
      all_fine 0 (sites vs) h.named h.fitting none_found.0 none_found.1 none_found.2 none_found.3 none_found.4

  -- there is a sink
  pub has_sink : sinkless vs ≡ None
  has_sink = none_found.5
