-- Laws of the table of refusals: each row is given on its condition and never otherwise, and the models without a row are the sound ones.
pub mod Tests
pub mod Sections
pub mod Components
pub mod Phases
pub mod Rules
pub mod Couplings
pub mod Further
pub mod Judged
pub mod Runs
pub mod Bags
pub mod Deciding
