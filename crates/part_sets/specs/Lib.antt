-- To be read: public clauses speak of it.
pub mod Members
-- Lemmas with their proofs, which say nothing that a reader needs: the laws of objects over such sets cite them.
pub mod MemberLaws
