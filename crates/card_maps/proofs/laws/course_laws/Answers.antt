use Rattle.card_maps.proofs.Courses.{course_goes_on, courses_of_a_map}
use Rattle.card_maps.proofs.laws.course_laws.Goals as goal

pub returns-clause-are_of_a_map : goal.returns-clause-are_of_a_map
returns-clause-are_of_a_map c = courses_of_a_map

pub returns-clause-go_on : goal.returns-clause-go_on
returns-clause-go_on c = course_goes_on
