mod Outcomes
mod Texts
