pub mod TakingLaws
pub mod TextLaws
pub mod TailLaws
pub mod TallyLaws
pub mod PrintingLaws
pub mod PastLaws
pub mod UnderwayLaws
pub mod WalkLaws
