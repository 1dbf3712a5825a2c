use Rattle.std.proofs.Common.{refl}
use Rattle.std.proofs.lemmas.Bool.{false≢true}
use Rattle.detail.proofs.Written.{meant_fits, listed_always, fits_written, there_real, real_there}
use Rattle.detail.proofs.writing.DetailContents.check.Goals as goal

pub returns-then-not-fits : goal.returns-then-not-fits
returns-then-not-fits c = record { as_its_contents_would = λ v h m. false≢true (c.if-not-fits.ensures.1 (meant_fits v c.args.self.now m h)) }

pub returns-then-not-exists : goal.returns-then-not-exists
returns-then-not-exists c =
    let t = c.args.self.now in
    let f = c.if-not-fits.ensures.0 refl in
    record { as_its_contents_would = (fits_written t f, listed_always t, (λ r. false≢true (c.if-not-exists.ensures.1 (real_there t f r)))) }

pub returns : goal.returns
returns c =
    let t = c.args.self.now in
    let f = c.if-not-fits.ensures.0 refl in
    record { as_its_contents_would = (fits_written t f, listed_always t, there_real t f (c.if-not-exists.ensures.0 refl), tt) }
