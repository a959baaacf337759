-- All that the buyer is promised, as one record. Assumes nothing.
use Rattle.tender.specs.Condition1.{Condition1}
use Rattle.tender.specs.Condition2.{Condition2}
use Rattle.tender.specs.Condition3.{Condition3}
use Rattle.tender.specs.Constants.{Constants}
use Rattle.tender.specs.Listing.{Listing}
use Rattle.tender.specs.Examples.{Examples}
use Rattle.tender.specs.SortKey.{SortKey}

pub record Tender : Type 1 where
  pub condition1 : Condition1
  pub condition2 : Condition2
  pub condition3 : Condition3
  pub constants : Constants
  pub listing : Listing
  pub examples : Examples
  pub sort_key : SortKey
