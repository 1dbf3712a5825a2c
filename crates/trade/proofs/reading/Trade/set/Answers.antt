use Rattle.std.proofs.Common.{Some, Ok, refl, sym, subst}
use Rattle.pieces.specs.Rows.{Reads}
use Rattle.fields.specs.Terms.{row36}
use Rattle.trade.specs.declared.rows.Field.TheVariants.{Nature, Detail, Quantity, Security, Price, Parties, Rebate, Brokerage, Charges, Note, Rate}
use Rattle.trade.proofs.Takes.{ok_note, err_note, taken_as, refused_in}
use Rattle.trade.proofs.reading.Trade.set.Goals as goal

pub returns-in_err-self-in-Nature : goal.returns-in_err-self-in-Nature
returns-in_err-self-in-Nature c = record { set_or_refused = refused_in _ (Nature c.in-Nature.p) _ _ _ c.in-Nature.is c.from_residual.ensures.1 c.in_err-self-in-Nature.ensures }

pub returns-in_ok-self-in-Nature : goal.returns-in_ok-self-in-Nature
returns-in_ok-self-in-Nature c = record { set_or_refused = taken_as _ (Nature c.in-Nature.p) _ _ c.in-Nature.is (_, c.in_ok-self-in-Nature.ensures, refl) }

pub returns-in_err-self-in-Detail : goal.returns-in_err-self-in-Detail
returns-in_err-self-in-Detail c = record { set_or_refused = refused_in _ (Detail c.in-Detail.p) _ _ _ c.in-Detail.is c.from_residual-in_err-self-in-Detail.ensures.1 c.in_err-self-in-Detail.ensures }

pub returns-in_ok-self-in-Detail : goal.returns-in_ok-self-in-Detail
returns-in_ok-self-in-Detail c = record { set_or_refused = taken_as _ (Detail c.in-Detail.p) _ _ c.in-Detail.is (_, c.in_ok-self-in-Detail.ensures, refl) }

pub returns-in_err-self-in-Quantity : goal.returns-in_err-self-in-Quantity
returns-in_err-self-in-Quantity c = record { set_or_refused = refused_in _ (Quantity c.in-Quantity.p) _ _ _ c.in-Quantity.is c.from_residual-in_err-self-in-Quantity.ensures.1 c.in_err-self-in-Quantity.ensures }

pub returns-in_ok-self-in-Quantity : goal.returns-in_ok-self-in-Quantity
returns-in_ok-self-in-Quantity c = record { set_or_refused = taken_as _ (Quantity c.in-Quantity.p) _ _ c.in-Quantity.is (_, c.in_ok-self-in-Quantity.ensures, refl) }

pub returns-in_err-self-in-Security : goal.returns-in_err-self-in-Security
returns-in_err-self-in-Security c = record { set_or_refused = refused_in _ (Security c.in-Security.p) _ _ _ c.in-Security.is c.from_residual-in_err-self-in-Security.ensures.1 c.in_err-self-in-Security.ensures }

pub returns-in_ok-self-in-Security : goal.returns-in_ok-self-in-Security
returns-in_ok-self-in-Security c = record { set_or_refused = taken_as _ (Security c.in-Security.p) _ _ c.in-Security.is (_, c.in_ok-self-in-Security.ensures, refl) }

pub returns-in_err-self-in-Price : goal.returns-in_err-self-in-Price
returns-in_err-self-in-Price c = record { set_or_refused = refused_in _ (Price c.in-Price.p) _ _ _ c.in-Price.is c.from_residual-in_err-self-in-Price.ensures.1 c.in_err-self-in-Price.ensures }

pub returns-in_ok-self-in-Price : goal.returns-in_ok-self-in-Price
returns-in_ok-self-in-Price c = record { set_or_refused = taken_as _ (Price c.in-Price.p) _ _ c.in-Price.is (_, c.in_ok-self-in-Price.ensures, refl) }

pub returns-in_err-self-in-Parties : goal.returns-in_err-self-in-Parties
returns-in_err-self-in-Parties c = record { set_or_refused = refused_in _ (Parties c.in-Parties.p) _ _ _ c.in-Parties.is c.from_residual-in_err-self-in-Parties.ensures.1 c.in_err-self-in-Parties.ensures }

pub returns-in_ok-self-in-Parties : goal.returns-in_ok-self-in-Parties
returns-in_ok-self-in-Parties c = record { set_or_refused = taken_as _ (Parties c.in-Parties.p) _ _ c.in-Parties.is (_, c.in_ok-self-in-Parties.ensures, refl) }

pub returns-in_err-read_part-in-Rebate : goal.returns-in_err-read_part-in-Rebate
returns-in_err-read_part-in-Rebate c = record { set_or_refused = refused_in _ (Rebate c.in-Rebate.p) _ _ _ c.in-Rebate.is c.from_residual-in_err-read_part-in-Rebate.ensures.1 c.in_err-read_part-in-Rebate.ensures }

pub returns-in_ok-read_part-in-Rebate : goal.returns-in_ok-read_part-in-Rebate
returns-in_ok-read_part-in-Rebate c = record { set_or_refused = taken_as _ (Rebate c.in-Rebate.p) _ _ c.in-Rebate.is (_, c.in_ok-read_part-in-Rebate.ensures, refl) }

pub returns-in_err-read_part-in-Brokerage : goal.returns-in_err-read_part-in-Brokerage
returns-in_err-read_part-in-Brokerage c = record { set_or_refused = refused_in _ (Brokerage c.in-Brokerage.p) _ _ _ c.in-Brokerage.is c.from_residual-in_err-read_part-in-Brokerage.ensures.1 c.in_err-read_part-in-Brokerage.ensures }

pub returns-in_ok-read_part-in-Brokerage : goal.returns-in_ok-read_part-in-Brokerage
returns-in_ok-read_part-in-Brokerage c = record { set_or_refused = taken_as _ (Brokerage c.in-Brokerage.p) _ _ c.in-Brokerage.is (_, c.in_ok-read_part-in-Brokerage.ensures, refl) }

pub returns-in_err-read_part-in-Charges : goal.returns-in_err-read_part-in-Charges
returns-in_err-read_part-in-Charges c = record { set_or_refused = refused_in _ (Charges c.in-Charges.p) _ _ _ c.in-Charges.is c.from_residual-in_err-read_part-in-Charges.ensures.1 c.in_err-read_part-in-Charges.ensures }

pub returns-in_ok-read_part-in-Charges : goal.returns-in_ok-read_part-in-Charges
returns-in_ok-read_part-in-Charges c = record { set_or_refused = taken_as _ (Charges c.in-Charges.p) _ _ c.in-Charges.is (_, c.in_ok-read_part-in-Charges.ensures, refl) }

pub returns-in_err-placed_at-in-Note : goal.returns-in_err-placed_at-in-Note
returns-in_err-placed_at-in-Note c = record { set_or_refused = refused_in _ (Note c.in-Note.p) _ _ _ c.in-Note.is c.from_residual-in_err-placed_at-in-Note.ensures.1 (err_note _ c.read_note.result c.in-Note.p.at _ c.in_err-placed_at-in-Note.ensures c.read_note.ensures.as_the_row_has_it) }

pub returns-in_ok-placed_at-in-Note : goal.returns-in_ok-placed_at-in-Note
returns-in_ok-placed_at-in-Note c = record { set_or_refused = taken_as _ (Note c.in-Note.p) _ (record { nature = c.args.self.now.nature; detail = c.args.self.now.detail; quantity = c.args.self.now.quantity; security = c.args.self.now.security; price = c.args.self.now.price; parties = c.args.self.now.parties; rebate = c.args.self.now.rebate; brokerage = c.args.self.now.brokerage; charges = c.args.self.now.charges; note = Some c.in_ok-placed_at-in-Note.field-0; rate = c.args.self.now.rate }) c.in-Note.is (c.in_ok-placed_at-in-Note.field-0.now, ok_note _ c.read_note.result c.in-Note.p.at _ c.in_ok-placed_at-in-Note.ensures c.read_note.ensures.as_the_row_has_it, refl) }

pub returns-in_err-read_part-in-Rate : goal.returns-in_err-read_part-in-Rate
returns-in_err-read_part-in-Rate c = record { set_or_refused = refused_in _ (Rate c.in-Rate.p) _ _ _ c.in-Rate.is c.from_residual-in_err-read_part-in-Rate.ensures.1 c.in_err-read_part-in-Rate.ensures }

pub returns-in_ok-read_part-in-Rate : goal.returns-in_ok-read_part-in-Rate
returns-in_ok-read_part-in-Rate c = record { set_or_refused = taken_as _ (Rate c.in-Rate.p) _ _ c.in-Rate.is (_, subst (λ v. Reads row36 c.in-Rate.p.bytes.now (Ok v)) (sym c.from.ensures) c.in_ok-read_part-in-Rate.ensures, refl) }
