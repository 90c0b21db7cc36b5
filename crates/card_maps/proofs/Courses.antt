-- Calls in a row are those of a finite map.
use Rattle.std.proofs.Common.{◌≡◌, inl, inr, ℕ, Bool, true, false, List, [], ◌∷◌, Some, None, refl, ap, subst}
use Rattle.store_model.specs.declared.name.ObjectName.{ObjectName}
use Rattle.card_maps.specs.CardMaps.{CardMap, bytes_at}
use Rattle.card_maps.specs.Course.{Answers, AreReplies, CardCall, CardReply, CardSide, CoursesAreOfAMap, CoursesGoOn, Done, Failed, Found, Get, IsBegun, ListNames, Listed, NotFound, Objects, Put, Remove, Says, Spent, Starved, TooLarge, Full, objects_after}

pub course_goes_on : CoursesGoOn
course_goes_on a b [] event is answers = (subst (λ (s : CardSide). Answers s event.counter event.call event.reply event.left) is answers, refl)
course_goes_on a b (first ∷ events) event course answers = (course.0, course_goes_on first.left b events event course.1 answers)

-- what one call says of the objects, and leaves of them
abbrev Steps : (a b : CardSide) → CardCall → CardReply → Type 0
Steps a b call reply =
    (took : Bool) × Says (bytes_at a.map) call reply × ((name : ObjectName) → bytes_at b.map name ≡ objects_after took call reply (bytes_at a.map) name)

same_map : (a b : CardSide) → b.map ≡ a.map → (name : ObjectName) → bytes_at b.map name ≡ bytes_at a.map name
same_map a b is name = ap (λ (m : CardMap). bytes_at m name) is

same_side : (a b : CardSide) → b ≡ a → (name : ObjectName) → bytes_at b.map name ≡ bytes_at a.map name
same_side a b is name = ap (λ (s : CardSide). bytes_at s.map name) is

get_steps : (a b : CardSide) (counter : ℕ) (name : ObjectName) (reply : CardReply) → Answers a counter (Get name) reply b → Steps a b (Get name) reply
get_steps a b counter name (Found bytes) h = (false, h.0, same_map a b h.1.map)
get_steps a b counter name NotFound h = (false, h.0, same_map a b h.1.map)
get_steps a b counter name Failed (inl h) = (false, tt, same_map a b h.1.map)
get_steps a b counter name Failed (inr h) = (false, tt, same_side a b h.same)
get_steps a b counter name Starved h = (false, tt, same_map a b h.1.map)
get_steps a b counter name _ h = absurd h

begun : (a b : CardSide) (name : ObjectName) (bytes : List ℕ) → IsBegun a name (Some bytes) b → Steps a b (Put name bytes) Failed
begun a b name bytes h = elim h.map [ inl is ↦ (false, tt, same_map a b is) | inr is ↦ (true, tt, is.1) ]

put_steps : (a b : CardSide) (counter : ℕ) (name : ObjectName) (bytes : List ℕ) (reply : CardReply) → Answers a counter (Put name bytes) reply b
    → Steps a b (Put name bytes) reply
put_steps a b counter name bytes (TooLarge size) h = (false, tt, same_side a b h.2)
put_steps a b counter name bytes (Full need free) h = (false, tt, same_map a b h.4.map)
put_steps a b counter name bytes Spent h = (false, tt, same_map a b h.3.map)
put_steps a b counter name bytes Done h = (false, tt, h.1.map)
put_steps a b counter name bytes Failed (inl h) = begun a b name bytes h.1
put_steps a b counter name bytes Failed (inr h) = (false, tt, same_side a b h.1.same)
put_steps a b counter name bytes _ h = absurd h

cleared : (a b : CardSide) (name : ObjectName) → IsBegun a name None b → Steps a b (Remove name) Failed
cleared a b name h = elim h.map [ inl is ↦ (false, tt, same_map a b is) | inr is ↦ (true, tt, is.1) ]

remove_steps : (a b : CardSide) (counter : ℕ) (name : ObjectName) (reply : CardReply) → Answers a counter (Remove name) reply b → Steps a b (Remove name) reply
remove_steps a b counter name NotFound h = (false, h.0, same_map a b h.1.map)
remove_steps a b counter name Spent h = (false, tt, same_map a b h.2.map)
remove_steps a b counter name Done h = (false, h.0, h.2.map)
remove_steps a b counter name Failed (inl h) = cleared a b name h.2
remove_steps a b counter name Failed (inr h) = (false, tt, same_side a b h.same)
remove_steps a b counter name _ h = absurd h

list_steps : (a b : CardSide) (counter : ℕ) (reply : CardReply) → Answers a counter ListNames reply b → Steps a b ListNames reply
list_steps a b counter (Listed names) h = (false, tt, same_side a b h.1)
list_steps a b counter Starved h = (false, tt, same_side a b h)
list_steps a b counter _ h = absurd h

steps : (a b : CardSide) (counter : ℕ) (call : CardCall) (reply : CardReply) → Answers a counter call reply b → Steps a b call reply
steps a b counter (Get name) reply h = get_steps a b counter name reply h
steps a b counter (Put name bytes) reply h = put_steps a b counter name bytes reply h
steps a b counter (Remove name) reply h = remove_steps a b counter name reply h
steps a b counter ListNames reply h = list_steps a b counter reply h

pub courses_of_a_map : CoursesAreOfAMap
courses_of_a_map a b [] is = ([], same_side a b is)
courses_of_a_map a b (event ∷ events) course =
    let one = steps a event.left event.counter event.call event.reply course.0 in
    let more = courses_of_a_map event.left b events course.1 in
    let same : bytes_at event.left.map ≡ objects_after one.0 event.call event.reply (bytes_at a.map) = λ i name. one.2 name i in
    (one.0 ∷ more.0, (one.1, subst (λ (o : Objects). AreReplies o events more.0 (bytes_at b.map)) same more.1))
