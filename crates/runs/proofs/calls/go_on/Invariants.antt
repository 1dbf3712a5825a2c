use Rattle.std.proofs.Common.{◌≡◌, ℕ, take, drop}
use Rattle.runs.specs.Told.{Tell, told}
use Rattle.runs.specs.Words.{History}
use Rattle.runs.proofs.calls.go_on.Given as goal

abbrev pub invariant-loop-turn : goal.invariant-loop-turn
invariant-loop-turn g l =
    let m = g.H.Hold in
    (l.line.settings ≡ l.initial.line.settings)
    × (m.most l.hold ≡ m.most l.initial.hold)
    × (drop l.turn-index l.turns ≡ drop l.turn-index l.initial.turns)
    × ((h : History) (P U : ℕ) → Tell l.initial.line.settings P (m.most l.initial.hold) U h l.initial.line (m.cells l.initial.hold) l.initial.book →
    Tell l.initial.line.settings P (m.most l.initial.hold) U (told h (take l.turn-index l.initial.turns) (take l.turn-index l.turns)) l.line (m.cells l.hold) l.book)
