-- What a line may be set up with.
use Rattle.std.specs.Prelude.{ℕ, ◌≤◌}
use Rattle.line.specs.declared.Settings.{Settings}

-- the numbers of the circle
abbrev pub first : Settings → ℕ
first x = x.circle.first.0

abbrev pub last : Settings → ℕ
last x = x.circle.last.0

-- every value in its range; else set-up refuses with 21
pub record Ranges (x : Settings) : Type 0 where
  pub member : x.member ≤ 9999
  pub from_one : 1 ≤ first x
  pub some : first x ≤ last x
  pub six_digits : last x ≤ 999999
  pub one_try : 1 ≤ x.tries
  pub nine_tries : x.tries ≤ 9
  pub one_tick : 1 ≤ x.wait
  pub short : x.wait ≤ 600
