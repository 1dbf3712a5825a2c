-- How what is left of the contents begins, which tells the pieces apart.
use Rattle.std.specs.Prelude.{◌≡◌, ℕ, suc, ◌≤◌, cond, ◌||◌, ◌⊎◌, List, [], ◌∷◌, ◌==◌}
use Rattle.notation.specs.Classes.{is_digit, is_capital}

-- how many digits stand in front
unfoldable pub run : List ℕ → ℕ
run [] = 0
run (b ∷ bs) = cond (is_digit b) (suc (run bs)) 0

-- which piece begins so, counted from the last: 0 none, since nothing is left; 1 digits, as of the days, a closing date or a time;
-- 2 a sign, as of interest days; 3 a letter, as of the mark; 4 a slash and no digit, as of a settlement; 5 a slash and a digit, as of the trade date; 6 none
unfoldable pub opening : List ℕ → ℕ
opening [] = 0
opening (b ∷ bs) = cond (is_digit b) 1 (cond (b == 43 || b == 45) 2 (cond (is_capital b) 3 (cond (b == 47) (cond (run bs == 0) 4 5) 6)))

-- what is left begins as a piece of this count or a lower one
abbrev pub OpensBy : ℕ → List ℕ → Type 0
OpensBy k s = opening s ≤ k

-- the runs of digits that stand behind the closing date: no digit, or the discount days
abbrev pub EndRun : ℕ → Type 0
EndRun n = (n ≡ 0) ⊎ (n ≡ 3)

-- those that stand behind the time: a closing date may stand in front
abbrev pub LateRun : ℕ → Type 0
LateRun n = (n ≡ 0) ⊎ ((n ≡ 3) ⊎ ((n ≡ 6) ⊎ (n ≡ 9)))

abbrev pub RunsToEnd : List ℕ → Type 0
RunsToEnd s = EndRun (run s)

abbrev pub RunsLate : List ℕ → Type 0
RunsLate s = LateRun (run s)

abbrev pub AtEnd : List ℕ → Type 0
AtEnd s = s ≡ []
