-- Registers by their events, one event more.
use Rattle.std.proofs.Common.{◌≡◌, ℕ, zero, suc, List, [], ◌∷◌, ◌++◌, take, refl, sym, ap, subst, ◌∙◌, Option, Some, None, Result, Ok, Err}
use Rattle.std.specs.Prelude.{IfOk, OnErr, OnOk, slice_get}
use Rattle.aml_contents.specs.Contents.{Contents}
use Rattle.aml_paths.specs.declared.memory.NoMemory.{NoMemory}
use Rattle.aml_paths.specs.declared.scope.ObjectId.{ObjectId}
use Rattle.aml_regions.specs.Bytes.{SameBytes, unit_of, with_unit}
use Rattle.aml_regions.specs.Events.{Event, Read, Written, Notified, Slept, Stalled}
use Rattle.aml_regions.specs.Text.{TextSets}
use Rattle.aml_regions.specs.Worlds.{MakesEvent}
use Rattle.aml_regions.specs.declared.access.Access.{Access}
use Rattle.aml_registers.specs.Answers.{AnswerByText, AnswerReads, AreAnswered, HoldByText, LeaveNames, behind_event, left_by}

-- the same byte at each place
one_function : (old new : ℕ → ℕ → ℕ) → SameBytes old new → new ≡ old
one_function old new same = λ i space address. same space address i

left_more : (bytes : ℕ → ℕ → ℕ) (events : List Event) (event : Event) → left_by bytes (events ++ event ∷ []) ≡ behind_event (left_by bytes events) event
left_more bytes [] event = refl
left_more bytes (first ∷ rest) event = left_more (behind_event bytes first) rest event

-- an event is no read, or is answered by these bytes; and it is no Sleep that left other contents
abbrev IsAnswered : (ℕ → ℕ → ℕ) → Event → Type 0
IsAnswered bytes event =
    ((access : Access) (value : ℕ) → event ≡ Read access value → value ≡ unit_of bytes access)
    × ((milliseconds : ℕ) (left : Contents) → event ≡ Slept milliseconds (Some left) → ⊥)

reads_more : (bytes : ℕ → ℕ → ℕ) (events : List Event) (event : Event) → AnswerReads bytes events → IsAnswered (left_by bytes events) event → AnswerReads bytes (events ++ event ∷ [])
reads_more bytes [] event answers last zero access value is = let e : event ≡ Read access value = cc is in last.0 access value e
reads_more bytes [] event answers last (suc i) access value is = absurd (cc is)
reads_more bytes (first ∷ rest) event answers last zero access value is = answers zero access value is
reads_more bytes (first ∷ rest) event answers last (suc i) access value is =
    reads_more (behind_event bytes first) rest event (λ j. answers (suc j)) last i access value is

leave_more : (events : List Event) (event : Event) → LeaveNames events → ((milliseconds : ℕ) (left : Contents) → event ≡ Slept milliseconds (Some left) → ⊥) → LeaveNames (events ++ event ∷ [])
leave_more [] event leaves last zero milliseconds left is = let e : event ≡ Slept milliseconds (Some left) = cc is in last milliseconds left e
leave_more [] event leaves last (suc i) milliseconds left is = absurd (cc is)
leave_more (first ∷ rest) event leaves last zero milliseconds left is = leaves zero milliseconds left is
leave_more (first ∷ rest) event leaves last (suc i) milliseconds left is = leave_more rest event (λ j. leaves (suc j)) last i milliseconds left is

answers_more : (bytes : ℕ → ℕ → ℕ) (events : List Event) (event : Event) → AreAnswered bytes events → IsAnswered (left_by bytes events) event → AreAnswered bytes (events ++ event ∷ [])
answers_more bytes events event answers last = (reads_more bytes events event answers.0 last, leave_more events event answers.1 last.1)

-- where nothing happened
pub none_answered : (bytes : ℕ → ℕ → ℕ) → AreAnswered bytes []
none_answered bytes = (λ i access value is. absurd (cc is), λ i milliseconds left is. absurd (cc is))

-- an event that changes no byte, or none that was made
pub held_still : {V : Type 0} (text : List ℕ) (r : Result V NoMemory) (event : V → Event) (old new : List Event) (before behind : ℕ → ℕ → ℕ)
    → ((v : V) (bytes : ℕ → ℕ → ℕ) → behind_event bytes (event v) ≡ bytes) → MakesEvent r event old new → SameBytes before behind
    → HoldByText text old before → HoldByText text new behind
held_still text (Ok v) event old new before behind quiet makes same holds = λ bytes sets space address.
    let more : left_by bytes new ≡ left_by bytes old = ap (left_by bytes) makes ∙ left_more bytes old (event v) ∙ quiet v (left_by bytes old) in
    same space address ∙ holds bytes sets space address ∙ ap (λ f. f space address) (sym more)
held_still text (Err e) event old new before behind quiet makes same holds = λ bytes sets space address.
    same space address ∙ holds bytes sets space address ∙ ap (λ events. left_by bytes events space address) (sym makes)

-- an event that asks for no answer, or none that was made
pub answered_still : {V : Type 0} (text : List ℕ) (r : Result V NoMemory) (event : V → Event) (old new : List Event)
    → ((v : V) (bytes : ℕ → ℕ → ℕ) → IsAnswered bytes (event v)) → MakesEvent r event old new → AnswerByText text old → AnswerByText text new
answered_still text (Ok v) event old new none makes answered = λ bytes sets.
    subst (AreAnswered bytes) (sym makes) (answers_more bytes old (event v) (answered bytes sets) (none v (left_by bytes old)))
answered_still text (Err e) event old new none makes answered = λ bytes sets. subst (AreAnswered bytes) (sym makes) (answered bytes sets)

abbrev access_in : Access → Event → Access
access_in other (Read access value) = access
access_in other event = other

abbrev value_in : Event → ℕ
value_in (Read access value) = value
value_in event = 0

-- a read
pub read_answered : (text : List ℕ) (access : Access) (r : Result ℕ NoMemory) (old new : List Event) (before : ℕ → ℕ → ℕ)
    → MakesEvent r (Read access) old new → IfOk r (λ value. value ≡ unit_of before access) → HoldByText text old before → AnswerByText text old → AnswerByText text new
read_answered text access (Ok v) old new before makes gives holds answered = λ bytes sets.
    let same : before ≡ left_by bytes old = one_function (left_by bytes old) before (holds bytes sets) in
    subst (AreAnswered bytes) (sym makes)
    (answers_more bytes old (Read access v) (answered bytes sets) (
      λ a w is.
          let unit : access ≡ a = ap (access_in access) is in
          let value : v ≡ w = ap value_in is in
          sym value ∙ gives ∙ ap (λ f. unit_of f access) same ∙ ap (λ b. unit_of (left_by bytes old) b) unit,
      λ milliseconds left is. absurd (cc is),
    ))
read_answered text access (Err e) old new before makes gives holds answered = λ bytes sets. subst (AreAnswered bytes) (sym makes) (answered bytes sets)

-- a write
pub held_written : {V : Type 0} (text : List ℕ) (access : Access) (value : ℕ) (r : Result V NoMemory) (old new : List Event) (before behind : ℕ → ℕ → ℕ)
    → MakesEvent r (λ _. Written access value) old new → OnOk r (SameBytes (with_unit before access value) behind) → OnErr r (SameBytes before behind)
    → HoldByText text old before → HoldByText text new behind
held_written text access value (Ok v) old new before behind makes put kept holds = λ bytes sets space address.
    let same : before ≡ left_by bytes old = one_function (left_by bytes old) before (holds bytes sets) in
    let more : left_by bytes new ≡ with_unit (left_by bytes old) access value = ap (left_by bytes) makes ∙ left_more bytes old (Written access value) in
    put space address ∙ ap (λ f. with_unit f access value space address) same ∙ ap (λ f. f space address) (sym more)
held_written text access value (Err e) old new before behind makes put kept holds = λ bytes sets space address.
    kept space address ∙ holds bytes sets space address ∙ ap (λ events. left_by bytes events space address) (sym makes)

-- events that ask for no answer
pub written_answered : (access : Access) (value : ℕ) (bytes : ℕ → ℕ → ℕ) → IsAnswered bytes (Written access value)
written_answered access value bytes = (λ a w is. absurd (cc is), λ milliseconds left is. absurd (cc is))

pub notified_answered : (object : ObjectId) (value : ℕ) (bytes : ℕ → ℕ → ℕ) → IsAnswered bytes (Notified object value)
notified_answered object value bytes = (λ a w is. absurd (cc is), λ milliseconds left is. absurd (cc is))

pub stalled_answered : (microseconds : ℕ) (bytes : ℕ → ℕ → ℕ) → IsAnswered bytes (Stalled microseconds)
stalled_answered microseconds bytes = (λ a w is. absurd (cc is), λ milliseconds left is. absurd (cc is))

-- a Sleep that leaves what names hold
pub slept_answered : (milliseconds : ℕ) (bytes : ℕ → ℕ → ℕ) → IsAnswered bytes (Slept milliseconds None)
slept_answered milliseconds bytes = (λ a w is. absurd (cc is), λ more left is. absurd (cc is))

-- a log that begins with an event goes on
pub behind_start : {V : Type 0} (start : Event) (r : Result V NoMemory) (event : V → Event) (old new : List Event) → MakesEvent r event old new → MakesEvent r event (start ∷ old) (start ∷ new)
behind_start start (Ok v) event old new makes = ap (λ log. start ∷ log) makes
behind_start start (Err e) event old new makes = ap (λ log. start ∷ log) makes
