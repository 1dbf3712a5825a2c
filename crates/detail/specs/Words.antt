-- What an exchange and a way of settling are called.
use Rattle.std.specs.Prelude.{ℕ, List, codes}
use Rattle.detail.specs.declared.codes.Place.{Place}
use Rattle.detail.specs.declared.codes.Place.TheVariants.{Berlin, Duesseldorf, Frankfurt, Hamburg, Hannover, Munich, Stuttgart}
use Rattle.detail.specs.declared.codes.SettlementKind.{SettlementKind}
use Rattle.detail.specs.declared.codes.SettlementKind.TheVariants.{WithoutCountervalue, WithCountervalue, AgainstPayment}

-- with its number
abbrev pub place_words : Place → List ℕ
place_words Berlin = codes "Berlin (100)"
place_words Duesseldorf = codes "Duesseldorf (120)"
place_words Frankfurt = codes "Frankfurt (130)"
place_words Hamburg = codes "Hamburg (140)"
place_words Hannover = codes "Hannover (150)"
place_words Munich = codes "Munich (160)"
place_words Stuttgart = codes "Stuttgart (170)"

-- with its code
abbrev pub settlement_words : SettlementKind → List ℕ
settlement_words WithoutCountervalue = codes "FO, countervalue not cleared"
settlement_words WithCountervalue = codes "FV, countervalue cleared"
settlement_words AgainstPayment = codes "FZ, delivery against payment"
