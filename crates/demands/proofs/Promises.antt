-- The three demands hold: one value for all statements of specs/Promises.
use mathlib.Core.List.{List}
use mathlib.Core.Option.{Option}
use Prim.Native.Nat.{ℕ}
use lib.ListN.{take}
use mathlib.Core.Path.{◌≡◌, ap₂}
use Rattle.event.specs.Types.{Text, Details}
use Rattle.event.specs.Event.{event_of}
use Rattle.call_definitions.specs.Occurrence.{details_at}
use Rattle.call_definitions.specs.Call.{text_of, title_of, description_of}
use Rattle.demands.specs.Promises.{TablePromises, TextPromises, PlacePromises, WeeksPromises, ReadingPromises, SearchPromises, Promises}
use Rattle.demands.proofs.Given.{given-one, given-lowest}
use Rattle.demands.proofs.Order.{text-order, table-order, words-order, weeks-order, read-order, record-order}
use Rattle.demands.proofs.TextAnswers.{accepted-none}
use Rattle.demands.proofs.DemandOne.{table-answered, text-answered, part-answered}
use Rattle.demands.proofs.Locating.{place-answered, place-accepted, place_none, table_same, text_same}
use Rattle.demands.proofs.DemandTwo.{table-listed}
use Rattle.demands.proofs.OwnBytes.{OwnIn, title-own, description-own}
use Rattle.demands.proofs.DemandTwoTexts.{text-told, part-told}
use Rattle.zone.proofs.Halving.{halving}
use Rattle.weeks.proofs.FloorWeeks.{in-week-floor}
use Rattle.weeks.proofs.Touching.{touches-shares}
use Rattle.demands.specs.Weeks.{SameReplays}
use Rattle.demands.proofs.Written.{written_read, secret-count}
use Rattle.demands.proofs.Weeks.{weeks-answered, weeks-sorted, same-replays, shuts-nothing}
use Rattle.demands.proofs.Reading.{read-answered, record-answered, run-answered, read-exact, same_bytes, same-readings, no-records}
use Rattle.demands.proofs.DemandThree.{private-same, secret-same, silent, silent-part, private-words, private-parts, fourteen}

-- two sheets of the same bytes
same-sheets : (size size' : ℕ) (after after' : List ℕ) → size ≡ size' → after ≡ after' → SameReplays (take size after) (take size' after')
same-sheets size size' after after' e f = same-replays (take size after) (take size' after') (ap₂ take e f)

table-promises : TablePromises
table-promises =
    record {
      answered = table-answered;
      listed = λ zones s from to buffer accepted shown. table-listed zones s from to buffer accepted shown;
      private =
          λ s t h k agree zones from to buffer answer answer' size size' after after'.
          private-same zones from to buffer answer answer' size size' after after' s t h k agree;
      secret =
          λ s t h k zones from to buffer answer answer' size size' after after'.
          secret-same zones from to buffer answer answer' size size' after after' s t h k;
    }

-- of a text whose bytes are the caller's own
text-promises : (which : Details → Option Text) → ((s : List ℕ) (x : ℕ) → OwnIn s (which (details_at (event_of s) x))) → TextPromises (text_of which) which
text-promises which owned =
    record {
      answered = λ s date. text-answered s date which;
      answered_part = λ s date. part-answered s date which;
      told = λ s h date. text-told which s (owned s) date h.setting h.accepted;
      told_part = λ s h date. part-told which s (owned s) date h.setting h.accepted;
      silent = silent which;
      silent_part = silent-part which;
      private = λ s t h k agree date answer answer'. private-words which s t h k agree date answer answer';
      private_part = λ s t h k agree date answer answer'. private-parts which s t h k agree date answer answer';
      secret = λ s h date answer start size g. fourteen which s h date answer g.answer_is;
      secret_part = λ s h date answer part g. fourteen which s h date answer g.answer_is;
    }

title-promises : TextPromises title_of (λ d. d.title)
unfolding title_of
title-promises = text-promises (λ d. d.title) title-own

description-promises : TextPromises description_of (λ d. d.description)
unfolding description_of
description-promises = text-promises (λ d. d.description) description-own

place-promises : PlacePromises
unfolding title_of description_of
place-promises =
    record {
      answered = place-answered;
      table = table_same;
      title = λ s answer place g. text_same s answer place g (λ d. d.title);
      description = λ s answer place g. text_same s answer place g (λ d. d.description);
      accepted = place-accepted;
      silent = λ s e answer place g. place_none s answer place g e;
    }

weeks-promises : WeeksPromises
weeks-promises =
    record {
      answered = weeks-answered;
      sorted = weeks-sorted;
      floor = in-week-floor;
      touching = touches-shares;
      written = λ zones s from to buffer answer size after g done. (written_read zones s from to buffer answer size after g done).accepted;
      private =
          λ s t h k agree zones from to buffer answer answer' size size' after after' g g'.
          let same = (private-same zones from to buffer answer answer' size size' after after' s t h k agree g g').0 in
          same-sheets size size' after after' same.sizes same.bytes;
      secret =
          λ s t h k zones from to buffer answer answer' size size' after after' g g'.
          let same = secret-same zones from to buffer answer answer' size size' after after' s t h k g g' in (
            same-sheets size size' after after' same.0.sizes same.0.bytes,
            λ done. shuts-nothing (take size after) (secret-count zones s from to buffer answer size after g done h.setting),
          );
    }

reading-promises : ReadingPromises
reading-promises =
    record {
      read = read-answered;
      fetched = record-answered;
      run = run-answered;
      written = written_read;
      exact = read-exact;
      same = same_bytes;
      private =
          λ s t h k agree zones from to buffer answer answer' size size' after after' g g'.
          let same = (private-same zones from to buffer answer answer' size size' after after' s t h k agree g g').0 in
          same-readings (take size after) (take size' after') (ap₂ take same.sizes same.bytes);
      secret =
          λ s t h k zones from to buffer answer answer' size size' after after' g g'.
          let same = (secret-same zones from to buffer answer answer' size size' after after' s t h k g g').0 in (
            same-readings (take size after) (take size' after') (ap₂ take same.sizes same.bytes),
            λ done.
                no-records (take size after) (written_read zones s from to buffer answer size after g done).accepted
                (secret-count zones s from to buffer answer size after g done h.setting),
          );
    }

search-promises : SearchPromises
search-promises = record { halving = halving }

pub promises : Promises
promises =
    record {
      one_answer = given-one;
      lowest = given-lowest;
      table_order = table-order;
      words_order = words-order;
      place_order = text-order;
      weeks_order = weeks-order;
      read_order = read-order;
      record_order = record-order;
      accepted = accepted-none;
      table = table-promises;
      title = title-promises;
      description = description-promises;
      place = place-promises;
      weeks = weeks-promises;
      reading = reading-promises;
      search = search-promises;
    }
