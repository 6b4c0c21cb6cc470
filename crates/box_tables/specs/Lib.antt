-- What fetching an answer and the box show, computed, to be compared with the request.
pub mod FetchedAnswers
pub mod BoxedSessions
