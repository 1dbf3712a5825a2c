use Rattle.std.proofs.Common.{false, sym, arith}
use Rattle.std.proofs.lemmas.List.{length-replicate}
use Rattle.table.proofs.Masks.{mask_none}
use Rattle.table.proofs.mask.Mask.new.Goals as goal

pub returns : goal.returns
returns c = record { all_free = λ n h. (omega (arith, length-replicate n false), sym (mask_none n)) }
