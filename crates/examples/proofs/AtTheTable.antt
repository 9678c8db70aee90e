-- The lines of "At the table", as one theorem, and the stories among them.
use Rattle.std.specs.Prelude.{refl, ◌++◌}
use Rattle.std.specs.Float.Ieee.{add, sub, mul, div, lt, le, eq, ne, is_nan, round, of_int, of_bits}
use Rattle.base.specs.Floats.{abs_of, min_of}
use Rattle.base.specs.Lists.{All, seek, keep, remove_first, distinct}
use Rattle.base.specs.Ranking.{insert_by}
use Rattle.queue.specs.Time.{seconds_of}
use Rattle.roster.specs.Roster.{observe}
use Rattle.matchmaker.specs.Quality.{quality_at, observations, average_from}
use Rattle.objective.specs.Pareto.{any_below, dominates_of}
use Rattle.objective.specs.Score.{longer, score_from}
use Rattle.objective.specs.Soft.{weighted, latency_at}
use Rattle.seating.specs.Seating.{seats}
use Rattle.seating.specs.Turns.{grown}
use Rattle.constraint.specs.Constraints.{party_seated}
use Rattle.candidate.specs.Choices.{choices, ways}
use Rattle.hall.specs.Games.{enough}
use Rattle.hall.specs.Hall.{same, empty, booking_answer, deal, answer_in, judge}
use Rattle.hall.specs.Rounds.{findings}
use Rattle.demand.specs.Calls.{step, mark_of, thin}
use Rattle.demand.specs.Runs.{Told}
use Rattle.demand.proofs.Runs.{told_on}
use Rattle.beam.specs.Beam.{expansions, stepped, steps, beam_of}
use Rattle.greedy.specs.Greedy.{goes_before, closer, filled, anchored}
use Rattle.examples.specs.Table.{one_game, three_games, phoning, phoning_on, phoned, phoned_on, phoned_hall, phoned_end, phone_again, circling, circling_on, circling_last, circled, circled_on, circled_last, circled_hall, circled_hall_on, circled_end, Holds, lines}

-- the two stories, told part by part: each part reckons from a hall that is written out
phone_told : Told (empty one_game) (phoning ++ phoning_on) (phoned ++ phoned_on) phoned_end
unfolding quality_at abs_of min_of dominates_of any_below seek keep party_seated observe observations average_from goes_before closer grown filled anchored insert_by expansions stepped steps beam_of seats seconds_of longer score_from choices ways enough findings step judge booking_answer deal same answer_in mark_of remove_first distinct weighted latency_at mul add div sub lt le eq ne is_nan of_int of_bits round
phone_told = told_on (empty one_game) phoned_hall phoned_end phoning phoning_on phoned phoned_on (record { answered = refl; left = refl }) (record { answered = refl; left = refl })

-- and without the resends
phone_thinned : Told (empty one_game) (phoning ++ thin phone_again phoning_on) (phoned ++ thin phone_again phoned_on) phoned_end
unfolding quality_at abs_of min_of dominates_of any_below seek keep party_seated observe observations average_from goes_before closer grown filled anchored insert_by expansions stepped steps beam_of seats seconds_of longer score_from choices ways enough findings step judge booking_answer deal same answer_in mark_of remove_first distinct weighted latency_at mul add div sub lt le eq ne is_nan of_int of_bits round
phone_thinned = told_on (empty one_game) phoned_hall phoned_end phoning (thin phone_again phoning_on) phoned (thin phone_again phoned_on) (record { answered = refl; left = refl }) (record { answered = refl; left = refl })

circle_told : Told (empty three_games) (circling ++ (circling_on ++ circling_last)) (circled ++ (circled_on ++ circled_last)) circled_end
unfolding quality_at abs_of min_of dominates_of any_below seek keep party_seated observe observations average_from goes_before closer grown filled anchored insert_by expansions stepped steps beam_of seats seconds_of longer score_from choices ways enough findings step judge booking_answer deal same answer_in mark_of remove_first distinct weighted latency_at mul add div sub lt le eq ne is_nan of_int of_bits round
circle_told =
    told_on (empty three_games) circled_hall circled_end circling (circling_on ++ circling_last) circled (circled_on ++ circled_last) (record { answered = refl; left = refl })
    (told_on circled_hall circled_hall_on circled_end circling_on circling_last circled_on circled_last (record { answered = refl; left = refl }) (record { answered = refl; left = refl }))

pub at_the_table : All Holds lines
unfolding quality_at abs_of min_of dominates_of any_below seek keep party_seated observe observations average_from goes_before closer grown filled anchored insert_by expansions stepped steps beam_of seats seconds_of longer score_from choices ways enough findings step judge booking_answer deal same answer_in mark_of remove_first distinct weighted latency_at mul add div sub lt le eq ne is_nan of_int of_bits round
at_the_table = (refl, (refl, (refl, (refl, (refl, (refl, ((refl, refl), ((refl, refl), (refl, (refl, (refl, (refl, (refl, (refl, ((refl, (record { answered = refl; left = refl }, record { answered = refl; left = refl })), ((refl, refl), ((refl, refl), ((refl, refl), ((refl, refl), ((refl, (phone_told, phone_thinned)), (refl, (refl, (refl, (refl, (refl, (refl, (refl, (refl, (refl, (refl, (refl, ((refl, (circle_told, circle_told)), ((refl, (record { answered = refl; left = refl }, record { answered = refl; left = refl })), (refl, ((refl, (record { answered = refl; left = refl }, record { answered = refl; left = refl })), ((refl, refl), ((refl, (record { answered = refl; left = refl }, record { answered = refl; left = refl })), ((refl, (record { answered = refl; left = refl }, record { answered = refl; left = refl })), ((refl, refl), ((refl, refl), ((refl, refl), ((refl, refl), ((refl, refl), (record { answered = refl; left = refl }, (record { answered = refl; left = refl }, tt)))))))))))))))))))))))))))))))))))))))))))))
