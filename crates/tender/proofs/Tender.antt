-- All that the buyer is promised holds. Assumes nothing.
use mathlib.Core.Path.{refl}
use Rattle.tender.specs.Condition1.{Condition1}
use Rattle.tender.specs.Listing.{Listing}
use Rattle.tender.specs.Tender.{Tender}
use Rattle.tender.proofs.Condition1 as calls
use Rattle.tender.proofs.Condition2.{condition2}
use Rattle.tender.proofs.Condition3.{condition3}
use Rattle.tender.proofs.Constants.{parts, constants}
use Rattle.tender.proofs.Listing as lines
use Rattle.tender.proofs.Jobs as jobs
use Rattle.tender.proofs.Examples.{examples}
use Rattle.tender.proofs.SortKey.{sort_key}

condition1 : Condition1
condition1 =
    record {
      admit = calls.admit;
      check = calls.check;
      check_width = calls.check_width;
      distance = calls.distance_refuses;
      generate = calls.generate;
      multiply = calls.multiply;
      measure = calls.measure;
      rank = calls.rank;
      apart = calls.apart;
      canonic = calls.canonic;
      print = calls.print;
      text_fits = jobs.fits;
      every_text = jobs.every_text;
      job = jobs.refused;
      negative_out = λ n. (refl, refl);
      parts = parts;
    }

listing : Listing
listing =
    record {
      prints = λ s j k before after d a n. jobs.listed s k before after d j a n;
      rows_once = lines.rows_once;
      rows_by_width = lines.rows_by_width;
      rows_by_number = lines.rows_by_number;
      widths = lines.widths;
      gives_target = lines.gives_target;
      lowest_index = lines.lowest_index;
      zero_index = lines.zero_index;
      letters = refl;
      digits = refl;
      signs = refl;
      numbers = lines.numbers;
      negative_numbers = lines.negative_numbers;
    }

pub tender : Tender
tender =
    record {
      condition1 = condition1;
      condition2 = condition2;
      condition3 = condition3;
      constants = constants;
      listing = listing;
      examples = examples;
      sort_key = sort_key;
    }
