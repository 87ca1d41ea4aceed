-- The files in the order in which they follow, those of proofs/ after these, and the words that the lemmas use; each is
-- explained here only.
--     row           what the table tells of a place: `About`, in Table.antt
--     role          what a thread knows of the queue by its place; crate queue's Roles.antt says what each role knows
--     Q             crate queue's Invariant.antt: Q.Inv and Q.moved are the queue's, Inv and moved the lock's
--     hands off     LOCKED without DOWNGRADED: an owner that saw it leaves the queue as it is
--     real          readers hold, and their count stands in the queue: the oldest waiter's next
--     calm          under real readers every owner has seen hands off, so that nobody changes the queue
--     bare          a word with no queue;  plain: one without DOWNGRADED;  handed: QUEUED with DOWNGRADED
--     leaver        a last reader that has subtracted and not yet cleared LOCKED
--     clear         a filled node is not completed;  fits: what a place says of the word that it saw
--     seen to       a queue that nobody holds and nobody owns has somebody responsible for it
--     lonely        nobody else stands on the queue;  quiet: nobody else changes it
--     land          the invariant after one thread has moved on, whatever becomes of the word
--     glide         so where the word and what the thread holds stay;  stay: so where the tickets stay too
--     went          a step moved the tickets by its effect alone
--     kept          a place's rule does not refuse, and keeps the invariant: kept_walk_tail, and so on, by places
-- Assumes nothing.
pub mod Table
pub mod Invariant
pub mod TableFacts
pub mod Frames
pub mod Moves
pub mod Kept
pub mod Words
pub mod Tokens
pub mod Fresh
pub mod Bridge
