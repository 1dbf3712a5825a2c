-- Dates and times as digits and back; optional pieces.
use Rattle.std.proofs.Common.{◌≡◌, ℕ, ◌+◌, ◌/◌, ◌%◌, ◌<◌, Some, None, Option, refl, ap, arith}
use Rattle.std.specs.Option.{option_map}
use Rattle.pieces.specs.Calendar.{date_of, stamp, time_of, minute_stamp}
use Rattle.pieces.specs.Notation.{Notation, Value, Proper, opt}
use Rattle.pieces.specs.declared.calendar.Date.{Date}
use Rattle.pieces.specs.declared.calendar.Time.{Time}
use Rattle.detail.specs.Detail.{IfThere}
use Rattle.detail.specs.Writing.{DateFits, TimeFits}

pub date_back : (d : Date) → DateFits d → date_of (stamp d) ≡ d
date_back d h =
    let y : 2000 + stamp d / 10000 ≡ d.year = omega (arith, h.from_2000, h.to_2099, h.month_fits, h.day_fits) in
    let m : stamp d / 100 % 100 ≡ d.month = omega (arith, h.from_2000, h.to_2099, h.month_fits, h.day_fits) in
    let t : stamp d % 100 ≡ d.day = omega (arith, h.from_2000, h.to_2099, h.month_fits, h.day_fits) in
    λ i. record { year = y i; month = m i; day = t i }

pub stamp_small : (d : Date) → DateFits d → stamp d < 1000000
stamp_small d h = omega (arith, h.from_2000, h.to_2099, h.month_fits, h.day_fits)

pub date_fits : (n : ℕ) → n < 1000000 → DateFits (date_of n)
date_fits n h = record { from_2000 = omega arith; to_2099 = omega arith; month_fits = omega arith; day_fits = omega arith }

pub time_back : (t : Time) → TimeFits t → time_of (minute_stamp t) ≡ t
time_back t h =
    let a : minute_stamp t / 100 ≡ t.hour = omega (arith, h.hour_fits, h.minute_fits) in
    let b : minute_stamp t % 100 ≡ t.minute = omega (arith, h.hour_fits, h.minute_fits) in
    λ i. record { hour = a i; minute = b i }

pub minutes_small : (t : Time) → TimeFits t → minute_stamp t < 10000
minutes_small t h = omega (arith, h.hour_fits, h.minute_fits)

pub time_fits : (n : ℕ) → n < 10000 → TimeFits (time_of n)
time_fits n h = record { hour_fits = omega arith; minute_fits = omega arith }

-- optional pieces
module _ {A : Type 0} {B : Type 0} (f : A → B) where
  pub lift : (P : A → Type 0) (Q : B → Type 0) → ((a : A) → P a → Q (f a)) → (o : Option A) → IfThere P o → IfThere Q (option_map f o)
  lift P Q step None h = tt
  lift P Q step (Some a) h = step a h

  pub mapped_back : (g : B → A) (P : A → Type 0) → ((a : A) → P a → g (f a) ≡ a) → (o : Option A) → IfThere P o → option_map g (option_map f o) ≡ o
  mapped_back g P step None h = refl
  mapped_back g P step (Some a) h = ap Some (step a h)

  pub both_ways : (P : A → Type 0) (Q : B → Type 0) (R : A → Type 0) → ((a : A) → R a → Q (f a) → P a) → (o : Option A) → IfThere R o → IfThere Q (option_map f o) → IfThere P o
  both_ways P Q R step None r h = tt
  both_ways P Q R step (Some a) r h = step a r h

  pub lift_with : (P : A → Type 0) (Q : B → Type 0) (R : A → Type 0) → ((a : A) → R a → P a → Q (f a)) → (o : Option A) → IfThere R o → IfThere P o → IfThere Q (option_map f o)
  lift_with P Q R step None r h = tt
  lift_with P Q R step (Some a) r h = step a r h

pub proper_there : (f : Notation) (o : Option (Value f)) → Proper (opt f) o → IfThere (Proper f) o
proper_there f None h = tt
proper_there f (Some v) h = h

pub there_proper : (f : Notation) (o : Option (Value f)) → IfThere (Proper f) o → Proper (opt f) o
there_proper f None h = tt
there_proper f (Some v) h = h
