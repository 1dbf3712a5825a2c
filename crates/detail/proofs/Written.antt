-- The details of a trade that can be written, and those that cannot.
use Rattle.std.proofs.Common.{◌≡◌, ℕ, zero, suc, ◌<◌, Bool, true, false, List, ℤ, pos, negsuc, nat_abs, Some, None, Option, sym, refl, subst, arith}
use Rattle.notation.specs.declared.classes.Class.TheVariants.{Capital}
use Rattle.std.specs.Option.{option_map}
use Rattle.pieces.specs.Calendar.{date_of, stamp, time_of, minute_stamp}
use Rattle.pieces.specs.Notation.{Value, Proper, number, exactly, opt}
use Rattle.pieces.specs.Plain.{signed}
use Rattle.pieces.specs.Rows.{Written}
use Rattle.detail_cut.specs.Form.{slash_date, slash_coded_date, signed_days, detail_form}
use Rattle.detail.specs.Codes.{place_number, kind_letters, issue_mark}
use Rattle.detail.specs.Detail.{IfThere, KindListed, DateExists, TimeExists, Listed, Real, Means, Settles, settlement_piece, days_of, days_piece, row31p, traded_in, time_in, closing_in, settlement_in, interest_in, discount_in}
use Rattle.detail.specs.Writing.{DateFits, TimeFits, DetailFits, date_of_settlement, OfCalendar, OfDay, DetailExists}
use Rattle.detail.specs.declared.codes.Place.{Place}
use Rattle.detail.specs.declared.codes.Place.TheVariants.{Berlin, Duesseldorf, Frankfurt, Hamburg, Hannover, Munich, Stuttgart}
use Rattle.detail.specs.declared.codes.SettlementKind.{SettlementKind}
use Rattle.detail.specs.declared.codes.SettlementKind.TheVariants.{WithoutCountervalue, WithCountervalue, AgainstPayment}
use Rattle.detail.specs.declared.detail.Settlement.{Settlement}
use Rattle.detail.specs.declared.detail.Detail.{Detail}
use Rattle.detail.proofs.Moments.{date_back, stamp_small, date_fits, time_back, minutes_small, time_fits, lift, mapped_back, both_ways, lift_with, proper_there, there_proper}

place_small : (p : Place) → place_number p < 1000
place_small Berlin = omega arith
place_small Duesseldorf = omega arith
place_small Frankfurt = omega arith
place_small Hamburg = omega arith
place_small Hannover = omega arith
place_small Munich = omega arith
place_small Stuttgart = omega arith

letters_proper : (k : SettlementKind) → Proper (exactly 2 Capital) (kind_letters k)
letters_proper WithoutCountervalue = (refl, (refl, (refl, tt)))
letters_proper WithCountervalue = (refl, (refl, (refl, tt)))
letters_proper AgainstPayment = (refl, (refl, (refl, tt)))

mark_proper : (b : Bool) → Proper (opt (exactly 2 Capital)) (issue_mark b)
mark_proper true = (refl, (refl, (refl, tt)))
mark_proper false = tt

-- a count of days and its sign
size_signed : (n : ℕ) (b : Bool) → nat_abs (signed n b) ≡ n
size_signed zero true = refl
size_signed (suc n) true = refl
size_signed n false = refl

days_back : (z : ℤ) → days_of (days_piece z) ≡ z
days_back (pos n) = refl
days_back (negsuc n) = refl

-- what a settlement's date and code come to
settled_fits : (x : Option (List ℕ × ℕ)) (t : Option Settlement) → Proper (opt slash_coded_date) x → Settles x t → IfThere DateFits (option_map date_of_settlement t)
settled_fits None None h m = tt
settled_fits None (Some t) h m = absurd m
settled_fits (Some x) None h m = absurd m
settled_fits (Some x) (Some t) h m = subst DateFits (sym m.1) (date_fits x.1 h.1)

settled_there : (x : Option (List ℕ × ℕ)) (t : Option Settlement) → IfThere (λ y. DateExists y.1) x → Settles x t → IfThere OfCalendar (option_map date_of_settlement t)
settled_there None None h m = tt
settled_there None (Some t) h m = absurd m
settled_there (Some x) None h m = absurd m
settled_there (Some x) (Some t) h m = subst OfCalendar (sym m.1) h

settled_proper : (t : Option Settlement) → IfThere DateFits (option_map date_of_settlement t) → Proper (opt slash_coded_date) (option_map settlement_piece t)
settled_proper None h = tt
settled_proper (Some t) h = (letters_proper t.kind, stamp_small t.value_date h)

settled_back : (t : Option Settlement) → IfThere DateFits (option_map date_of_settlement t) → Settles (option_map settlement_piece t) t
settled_back None h = tt
settled_back (Some t) h = (refl, sym (date_back t.value_date h))

settled_real : (t : Option Settlement) → IfThere DateFits (option_map date_of_settlement t) → IfThere OfCalendar (option_map date_of_settlement t) → IfThere (λ y. DateExists y.1) (option_map settlement_piece t)
settled_real None h e = tt
settled_real (Some t) h e = subst OfCalendar (sym (date_back t.value_date h)) e

settled_unreal : (t : Option Settlement) → IfThere DateFits (option_map date_of_settlement t) → IfThere (λ y. DateExists y.1) (option_map settlement_piece t) → IfThere OfCalendar (option_map date_of_settlement t)
settled_unreal None h e = tt
settled_unreal (Some t) h e = subst OfCalendar (date_back t.value_date h) e

settled_listed : (t : Option Settlement) → IfThere KindListed (option_map settlement_piece t)
settled_listed None = tt
settled_listed (Some t) = (t.kind, refl)

-- what some pieces mean has digits enough
module _ (v : Value detail_form) (t : Detail) (m : Means v t) where
  pub meant_fits : Proper detail_form v → DetailFits t
  meant_fits h = record {
    traded_fits = subst (IfThere DateFits) (sym m.traded_as) (lift date_of (λ n. n < 1000000) DateFits date_fits (traded_in v) (proper_there slash_date (traded_in v) h.1.0));
    time_fits = subst (IfThere TimeFits) (sym m.time_as) (lift time_of (λ n. n < 10000) TimeFits time_fits (time_in v) (proper_there (number 4) (time_in v) h.1.1.0));
    closing_fits = subst (IfThere DateFits) (sym m.closing_as) (lift date_of (λ n. n < 1000000) DateFits date_fits (closing_in v) (proper_there (number 6) (closing_in v) h.1.1.1.0));
    value_date_fits = settled_fits (settlement_in v) t.settlement h.1.1.1.1.0 m.settlement_as;
    interest_fits = subst (IfThere (λ z. nat_abs z < 1000)) (sym m.interest_as) (lift days_of (Proper signed_days) (λ z. nat_abs z < 1000) (λ x p. subst (λ n. n < 1000) (sym (size_signed x.1 x.0)) p.1) (interest_in v) (proper_there signed_days (interest_in v) h.1.1.1.1.1.1.0));
    discount_fits = subst (IfThere (λ n. n < 1000)) (sym m.discount_as) (proper_there (number 3) (discount_in v) h.1.1.1.1.1.1.1);
  }

  pub meant_there : Real v → DetailExists t
  meant_there r = record {
    traded_there = subst (IfThere OfCalendar) (sym m.traded_as) (lift date_of DateExists OfCalendar (λ n h. h) (traded_in v) r.traded_exists);
    time_there = subst (IfThere OfDay) (sym m.time_as) (lift time_of TimeExists OfDay (λ n h. h) (time_in v) r.time_exists);
    closing_there = subst (IfThere OfCalendar) (sym m.closing_as) (lift date_of DateExists OfCalendar (λ n h. h) (closing_in v) r.closing_exists);
    value_date_there = settled_there (settlement_in v) t.settlement r.value_date_exists m.settlement_as;
  }

-- what has digits enough can be written
module _ (t : Detail) where
  pub listed_always : Listed (row31p.pieces t)
  listed_always = record {
    place_listed = (t.place, refl);
    settlement_listed = settled_listed t.settlement;
    mark_listed = (t.new_issue, refl);
  }

  module _ (f : DetailFits t) where
    proper_pieces : Proper detail_form (row31p.pieces t)
    proper_pieces = (
      place_small t.place,
      (
        there_proper slash_date (option_map stamp t.traded) (lift stamp DateFits (λ n. n < 1000000) stamp_small t.traded f.traded_fits),
        (
          there_proper (number 4) (option_map minute_stamp t.time) (lift minute_stamp TimeFits (λ n. n < 10000) minutes_small t.time f.time_fits),
          (
            there_proper (number 6) (option_map stamp t.closing) (lift stamp DateFits (λ n. n < 1000000) stamp_small t.closing f.closing_fits),
            (
              settled_proper t.settlement f.value_date_fits,
              (
                mark_proper t.new_issue,
                (
                  there_proper signed_days (option_map days_piece t.interest_days) (lift days_piece (λ z. nat_abs z < 1000) (Proper signed_days) (λ z h. (tt, h)) t.interest_days f.interest_fits),
                  there_proper (number 3) t.discount_days f.discount_fits,
                ),
              ),
            ),
          ),
        ),
      ),
    )

    means_pieces : Means (row31p.pieces t) t
    means_pieces = record {
      place_as = refl;
      traded_as = sym (mapped_back stamp date_of DateFits date_back t.traded f.traded_fits);
      time_as = sym (mapped_back minute_stamp time_of TimeFits time_back t.time f.time_fits);
      closing_as = sym (mapped_back stamp date_of DateFits date_back t.closing f.closing_fits);
      settlement_as = settled_back t.settlement f.value_date_fits;
      mark_as = refl;
      interest_as = sym (mapped_back days_piece days_of (λ z. nat_abs z < 1000) (λ z h. days_back z) t.interest_days f.interest_fits);
      discount_as = refl;
    }

    pub fits_written : Written row31p t
    fits_written = (proper_pieces, means_pieces)

    pub there_real : DetailExists t → Real (row31p.pieces t)
    there_real e = record {
      traded_exists = lift_with stamp OfCalendar DateExists DateFits (λ d h o. subst OfCalendar (sym (date_back d h)) o) t.traded f.traded_fits e.traded_there;
      time_exists = lift_with minute_stamp OfDay TimeExists TimeFits (λ d h o. subst OfDay (sym (time_back d h)) o) t.time f.time_fits e.time_there;
      closing_exists = lift_with stamp OfCalendar DateExists DateFits (λ d h o. subst OfCalendar (sym (date_back d h)) o) t.closing f.closing_fits e.closing_there;
      value_date_exists = settled_real t.settlement f.value_date_fits e.value_date_there;
    }

    pub real_there : Real (row31p.pieces t) → DetailExists t
    real_there r = record {
      traded_there = both_ways stamp OfCalendar DateExists DateFits (λ d h o. subst OfCalendar (date_back d h) o) t.traded f.traded_fits r.traded_exists;
      time_there = both_ways minute_stamp OfDay TimeExists TimeFits (λ d h o. subst OfDay (time_back d h) o) t.time f.time_fits r.time_exists;
      closing_there = both_ways stamp OfCalendar DateExists DateFits (λ d h o. subst OfCalendar (date_back d h) o) t.closing f.closing_fits r.closing_exists;
      value_date_there = settled_unreal t.settlement f.value_date_fits r.value_date_exists;
    }
