use Rattle.std.proofs.Common.{◌+◌, ◌/◌, ◌%◌, ◌^◌, ◌<◌, [], ◌∷◌, decimal, sym, subst, rules}
use Rattle.pieces.specs.Scratches.{Grown}
use Rattle.pieces.proofs.Growing.{number_more, number_one}
use Rattle.pieces.proofs.scratch.Scratch.+number.Goals as goal
use Rattle.pieces.proofs.scratch.Scratch.+number.Goals.{then-n-ge10, else-n-ge10}

pub returns : goal.returns
returns t c =
    let f : c.args.n < 2 ^ 64 = search rules in
    elim c.if-n-ge10.branch [
      | then-n-ge10 w ↦ number_more c.args.self.now c.if-n-ge10.self c.push.new.self c.args.n w.if-n-ge10.true f (subst (λ s. Grown c.args.self.now s (decimal (c.args.n / 10))) (sym w.self-is) w.number.ensures) c.push.ensures.grown
      | else-n-ge10 w ↦ number_one c.args.self.now c.push.new.self c.args.n w.if-n-ge10.false (subst (λ s. Grown s c.push.new.self ((48 + c.args.n % 10) ∷ [])) w.self-is c.push.ensures.grown)
    ]
