use Rattle.trade.specs.declared.rows.Kind.TheVariants.{Nature, Detail, Quantity, Security, Price, Parties, Rebate, Brokerage, Charges, Note, Rate}
use Rattle.std.proofs.Common.{subst}
use Rattle.fields.specs.Terms.{row36}
use Rattle.trade.specs.Views.{view}
use Rattle.trade.specs.Writing.{LinedAs}
use Rattle.trade.proofs.Writings.{lined_at}
use Rattle.trade.proofs.reading.Trade.line.Goals as goal

pub returns-in-Nature : goal.returns-in-Nature
returns-in-Nature c = lined_at (view c.args.self.now) c.args.kind Nature c.args.out.now c.write_line.new.out c.write_line.result c.label_of-label.result.now c.in-Nature.is c.label_of-label.ensures c.write_line.ensures

pub returns-in-Detail : goal.returns-in-Detail
returns-in-Detail c = lined_at (view c.args.self.now) c.args.kind Detail c.args.out.now c.write_line-in-Detail.new.out c.write_line-in-Detail.result c.label_of-label.result.now c.in-Detail.is c.label_of-label.ensures c.write_line-in-Detail.ensures

pub returns-in-Quantity : goal.returns-in-Quantity
returns-in-Quantity c = lined_at (view c.args.self.now) c.args.kind Quantity c.args.out.now c.write_line-in-Quantity.new.out c.write_line-in-Quantity.result c.label_of-label.result.now c.in-Quantity.is c.label_of-label.ensures c.write_line-in-Quantity.ensures

pub returns-in-Security : goal.returns-in-Security
returns-in-Security c = lined_at (view c.args.self.now) c.args.kind Security c.args.out.now c.write_line-in-Security.new.out c.write_line-in-Security.result c.label_of-label.result.now c.in-Security.is c.label_of-label.ensures c.write_line-in-Security.ensures

pub returns-in-Price : goal.returns-in-Price
returns-in-Price c = lined_at (view c.args.self.now) c.args.kind Price c.args.out.now c.write_line-in-Price.new.out c.write_line-in-Price.result c.label_of-label.result.now c.in-Price.is c.label_of-label.ensures c.write_line-in-Price.ensures

pub returns-in-Parties : goal.returns-in-Parties
returns-in-Parties c = lined_at (view c.args.self.now) c.args.kind Parties c.args.out.now c.write_line-in-Parties.new.out c.write_line-in-Parties.result c.label_of-label.result.now c.in-Parties.is c.label_of-label.ensures c.write_line-in-Parties.ensures

pub returns-in-Rebate : goal.returns-in-Rebate
returns-in-Rebate c = lined_at (view c.args.self.now) c.args.kind Rebate c.args.out.now c.write_line-in-Rebate.new.out c.write_line-in-Rebate.result c.label_of-label.result.now c.in-Rebate.is c.label_of-label.ensures c.write_line-in-Rebate.ensures

pub returns-in-Brokerage : goal.returns-in-Brokerage
returns-in-Brokerage c = lined_at (view c.args.self.now) c.args.kind Brokerage c.args.out.now c.write_line-in-Brokerage.new.out c.write_line-in-Brokerage.result c.label_of-label.result.now c.in-Brokerage.is c.label_of-label.ensures c.write_line-in-Brokerage.ensures

pub returns-in-Charges : goal.returns-in-Charges
returns-in-Charges c = lined_at (view c.args.self.now) c.args.kind Charges c.args.out.now c.write_line-in-Charges.new.out c.write_line-in-Charges.result c.label_of-label.result.now c.in-Charges.is c.label_of-label.ensures c.write_line-in-Charges.ensures

pub returns-in-Note : goal.returns-in-Note
returns-in-Note c = lined_at (view c.args.self.now) c.args.kind Note c.args.out.now c.write_note_line.new.out c.write_note_line.result c.label_of-label.result.now c.in-Note.is c.label_of-label.ensures c.write_note_line.ensures

pub returns-in-Rate : goal.returns-in-Rate
returns-in-Rate c = lined_at (view c.args.self.now) c.args.kind Rate c.args.out.now c.write_line-in-Rate.new.out c.write_line-in-Rate.result c.label_of-label.result.now c.in-Rate.is c.label_of-label.ensures (subst (λ field. LinedAs row36 c.label_of-label.result.now field c.args.out.now c.write_line-in-Rate.new.out c.write_line-in-Rate.result) c.rate_of.ensures.same_number c.write_line-in-Rate.ensures)
