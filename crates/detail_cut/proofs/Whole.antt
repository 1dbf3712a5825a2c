-- The eight pieces one after another.
use Rattle.std.proofs.Common.{ℕ, ◌<◌, Bool, List, length, Some, None, Option}
use Rattle.notation.specs.declared.classes.Class.TheVariants.{Capital}
use Rattle.pieces.specs.Cuts.{Front, Takes}
use Rattle.pieces.specs.Notation.{Finds, number, exactly, opt}
use Rattle.pieces.proofs.Forms.{sized_number, rest_second}
use Rattle.detail_cut.specs.Form.{slash_date, slash_coded_date, signed_days, from_discount, from_interest, from_mark, from_settlement, from_closing, from_time, from_traded, detail_form}
use Rattle.detail_cut.specs.Runs.{OpensBy, RunsToEnd, RunsLate, AtEnd}
use Rattle.detail_cut.proofs.Taking.{then_none, last_none}
use Rattle.detail_cut.proofs.Follows.{opens_discount, opens_interest, opens_mark, opens_time, runs_settlement, runs_closing}

module _ (s t0 t1 t2 t3 t4 t5 t6 t7 : List ℕ) (p : ℕ) (d t c : Option ℕ) (a : Option (List ℕ × ℕ)) (m : Option (List ℕ)) (i : Option (Bool × ℕ)) (x : Option ℕ)
    (f0 : Front (number 3) s (Some (p, t0)))
    (f1 : Takes (opt slash_date) (OpensBy 4) t0 d t1) (f2 : Takes (opt (number 4)) RunsLate t1 t t2) (f3 : Takes (opt (number 6)) RunsToEnd t2 c t3)
    (f4 : Takes (opt slash_coded_date) (OpensBy 3) t3 a t4) (f5 : Takes (opt (exactly 2 Capital)) (OpensBy 2) t4 m t5) (f6 : Takes (opt signed_days) (OpensBy 1) t5 i t6)
    (f7 : Takes (opt (number 3)) AtEnd t6 x t7) where
  pub detail_none : 0 < length t7 → Finds detail_form s None
  detail_none more =
      rest_second (number 3) from_traded s 3 (sized_number 3) p t0 f0
      (then_none (opt slash_date) from_time (OpensBy 4) opens_time t0 d t1 f1
      (then_none (opt (number 4)) from_closing RunsLate runs_closing t1 t t2 f2
      (then_none (opt (number 6)) from_settlement RunsToEnd runs_settlement t2 c t3 f3
      (then_none (opt slash_coded_date) from_mark (OpensBy 3) opens_mark t3 a t4 f4
      (then_none (opt (exactly 2 Capital)) from_interest (OpensBy 2) opens_interest t4 m t5 f5
      (then_none (opt signed_days) from_discount (OpensBy 1) opens_discount t5 i t6 f6
      (last_none (opt (number 3)) t6 x t7 f7 more)))))))
